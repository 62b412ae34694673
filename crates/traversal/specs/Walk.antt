-- What the walk over a block, and over all that is inside it, finds.
use Rattle.std.specs.Prelude.{ℕ, ◌+◌, ◌-◌, ◌≤◌, ◌<◌, ◌≡◌, true, List, length}
use Rattle.pktree.specs.Lists.{Every}
use Rattle.pktree.specs.Elements.{ForestOf, empty, size, block_at, pixel}
use Rattle.pktree.specs.Tree.{pixels}
use Rattle.pktree.proofs.Forests.{block_count}
use Rattle.pktree.proofs.LocalTest.{heads, slot_test, inside_test}
use Rattle.elements.specs.declared.Element.{Element}
use Rattle.elements.specs.declared.Element.TheVariants.{Pixel, Block}
use Rattle.measures.specs.declared.sizes.Layout.{Layout}
use Rattle.measures.specs.Slot.{slot_part, number_word}
use Rattle.store.specs.Placed.{Placed, slots_of}
use Rattle.store.proofs.Standing.{SlotSays, Stands}
use Rattle.store.proofs.BlockNumbers.{TreeNumbers}
use Rattle.store.specs.declared.Damaged.{Damaged}
use Rattle.std.specs.Prelude.{Result, Ok, Err}
use Rattle.store.specs.Opening.{HeaderSays}
use Rattle.inspection.specs.Pass.{entry_of}
use Rattle.traversal.specs.declared.Claim.{Claim}
use Rattle.traversal.specs.declared.Seen.{Seen}
use Rattle.traversal.specs.declared.Walk.{Walk}

-- where the slots lie, k, and the most pixels
pub record Limits : Type 0 where
  pub layout : Layout
  pub k : ℕ
  pub most : ℕ

abbrev pub limits_of : Walk → Limits
limits_of walk = record { layout = walk.slots.layout; k = walk.k; most = walk.most }

-- the answer that the words are damaged
abbrev pub unsound : Result Seen Damaged
unsound = Err (record {})

pub record WithinLimits (limits : Limits) (seen : Seen) : Type 0 where
  pub blocks_to : seen.blocks ≤ limits.layout.slots
  pub pixels_to : seen.pixels ≤ limits.most

-- the numbers with those of these elements
abbrev pub seen_with : {A : Type 0} → Seen → ForestOf A → Seen
seen_with seen f = record { blocks = seen.blocks + block_count f; pixels = seen.pixels + length (pixels f) }

-- elements that stand in the words, in slots that there are, with every block among them right by the local law and by its number
pub record StandsRight (limits : Limits) (words : List ℕ) (t : Placed) : Type 0 where
  pub stands : Stands limits.layout.width words t
  pub right : inside_test limits.k t ≡ true
  pub inside : Every (λ s. s < limits.layout.slots) (slots_of t)
  pub numbers : TreeNumbers limits.layout.width words t

-- a block in its slot, right by the local law, with at least so many elements; the slot says how many pixels it has
pub record BlockAt (limits : Limits) (words : List ℕ) (claim : Claim) (es : Placed) : Type 0 where
  pub says : SlotSays (slot_part limits.layout.width words claim.block.slot) claim.block.level claim.block.code es
  pub many : claim.least ≤ size es
  pub passes : slot_test limits.k (claim.block.level - 1) claim.block.code (heads es) ≡ true
  pub elements : StandsRight limits words es
  pub number : number_word (slot_part limits.layout.width words claim.block.slot) ≡ length (pixels es)

pub record CanWalk (limits : Limits) (claim : Claim) (seen : Seen) : Type 0 where
  pub slot_below : claim.block.slot < limits.layout.slots
  pub level_from : 1 ≤ claim.block.level
  pub level_to : claim.block.level ≤ 16
  pub within : WithinLimits limits seen

-- the block with these elements
abbrev pub claimed : Claim → Placed → Placed
claimed claim es = block_at claim.block.slot claim.block.level claim.block.code es empty

-- no block is as claimed for whose blocks and pixels there is room
pub record NoneClaimed (limits : Limits) (words : List ℕ) (claim : Claim) (seen : Seen) : Type 0 where
  pub none : (es : Placed) → BlockAt limits words claim es → WithinLimits limits (seen_with seen (claimed claim es)) → ⊥

pub record BlockOpened (limits : Limits) (words : List ℕ) (claim : Claim) (seen : Seen) (count : ℕ) : Type 0 where
  pub header : HeaderSays (slot_part limits.layout.width words claim.block.slot) claim.block.level claim.block.code count
  pub many : claim.least ≤ count
  pub room : seen.blocks < limits.layout.slots

abbrev pub OpenMeets : Limits → List ℕ → Claim → Seen → Result ℕ Damaged → Type 0
OpenMeets limits words claim seen (Ok count) = BlockOpened limits words claim seen count
OpenMeets limits words claim seen (Err _) = NoneClaimed limits words claim seen

pub record BlockWalked (limits : Limits) (words : List ℕ) (claim : Claim) (seen now : Seen) : Type 0 where
  pub found : Placed
  pub at : BlockAt limits words claim found
  pub now_is : now ≡ seen_with seen (claimed claim found)
  pub within : WithinLimits limits now

-- the numbers with those of the block that is as claimed, or there is none
abbrev pub WalkMeets : Limits → List ℕ → Claim → Seen → Result Seen Damaged → Type 0
WalkMeets limits words claim seen (Ok now) = BlockWalked limits words claim seen now
WalkMeets limits words claim seen (Err _) = NoneClaimed limits words claim seen

-- the numbers with one pixel more, or N are there already
abbrev pub PixelMeets : Limits → Seen → Result Seen Damaged → Type 0
PixelMeets limits seen (Ok now) = (now ≡ record { blocks = seen.blocks; pixels = seen.pixels + 1 }) × WithinLimits limits now
PixelMeets limits seen (Err _) = limits.most ≤ seen.pixels

-- the words of an element name this one
abbrev pub Names : Element → Placed → Type 0
Names (Pixel c) t = t ≡ pixel c empty
Names (Block block) t = (es : Placed) × (t ≡ block_at block.slot block.level block.code es empty)

pub record CanWalkElement (limits : Limits) (element : Element) (level : ℕ) (seen : Seen) : Type 0 where
  pub level_to : level ≤ 16
  pub below : (entry_of element).level < level
  pub within : WithinLimits limits seen

pub record ElementWalked (limits : Limits) (words : List ℕ) (element : Element) (seen now : Seen) : Type 0 where
  pub found : Placed
  pub names : Names element found
  pub at : StandsRight limits words found
  pub now_is : now ≡ seen_with seen found
  pub within : WithinLimits limits now

-- the words name no element that is right and for which there is room
pub record NoneNamed (limits : Limits) (words : List ℕ) (element : Element) (seen : Seen) : Type 0 where
  pub none : (t : Placed) → Names element t → StandsRight limits words t → WithinLimits limits (seen_with seen t) → ⊥

abbrev pub WalkElementMeets : Limits → List ℕ → Element → Seen → Result Seen Damaged → Type 0
WalkElementMeets limits words element seen (Ok now) = ElementWalked limits words element seen now
WalkElementMeets limits words element seen (Err _) = NoneNamed limits words element seen
