-- The level of the block around falls.
use Rattle.std.proofs.Common.{◌≡◌, ◌≤◌, length}
use Rattle.walks.proofs.Walks.{InLoop}
use Rattle.saving.specs.Saving.{CanSave, EntriesPut, places_of}
use Rattle.saving.proofs.+save_block.Given as goal

abbrev pub decreases-save_block : goal.decreases-save_block
decreases-save_block l = l.above

abbrev pub invariant-loop-i : goal.invariant-loop-i
invariant-loop-i l =
    InLoop (EntriesPut (places_of l.saving)) l.saving.slots.layout l.saving.slots.words.now l.above l.slot l.level l.code l.count l.part l.i
    (l.initial.output, l.initial.next, l.initial.progress.left) (l.output, l.next, l.progress.left)
    × CanSave (places_of l.saving) l.above l.initial.output × (length l.output ≡ length l.initial.output) × (l.progress.left ≤ l.initial.progress.left)
