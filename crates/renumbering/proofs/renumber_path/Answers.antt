-- `renumbering::renumber_path` meets its contract: each turn renumbers one slot more of the path.
use native.Mathlib.Numerals.{add-one}
use native.Mathlib.Omega.{arith}
use mathlib.Core.Path.{◌≡◌, ap, ◌∙◌}
use lib.ListN.{length-take}
use Rattle.std.proofs.lemmas.List.{get_or-take}
use Rattle.descent.specs.declared.Passed.{Passed}
use Rattle.descent.specs.Located.{nowhere, passed_at}
use Rattle.renumbering.specs.Renumber.{path_slots}
use Rattle.renumbering.proofs.Renumbering.{one_renumbered, fits_renumbered}
use Rattle.renumbering.proofs.renumber_path.Goals as goal

pub loop-entry-preserved : goal.loop-entry-preserved
loop-entry-preserved c =
    let l = c.loop-entry in
    let a = c.args in
    let passed = a.path.now in
    let depth = a.located.depth in
    let deep = length-take depth passed in
    let slot : c.wide.result ≡ (passed_at passed l.entry-index).slot =
    c.wide.ensures ∙ ap (λ (p : Passed). p.slot) (get_or-take depth passed l.entry-index nowhere (omega arith)) in
    rw add-one (one_renumbered a.layout (path_slots passed l.entry-index) _ a.removed a.inserted a.store.now l.store _ (fits_renumbered c.requires.fits l.invariant)
    (c.requires.path_below l.entry-index (omega arith)) l.invariant (rw slot at c.renumber_slot.ensures))

pub returns : goal.returns
returns c =
    let l = c.loop-entry in
    let a = c.args in
    let passed = a.path.now in
    let depth = a.located.depth in
    let deep = length-take depth passed in
    let e : l.entry-index ≡ depth = omega arith in
    let h = rw e at l.invariant in
    one_renumbered a.layout (path_slots passed depth) _ a.removed a.inserted a.store.now l.store _ (fits_renumbered c.requires.fits l.invariant)
    c.requires.slot_below h (rw c.wide-2.ensures at c.renumber_slot-2.ensures)
