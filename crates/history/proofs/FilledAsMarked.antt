-- 02, P2: an instance of the claim about two lists, since the same pixels survive.
use mathlib.Core.Path.{refl, sym, ◌∙◌}
use mathlib.Core.List.{[], ◌∷◌, ◌++◌}
use Rattle.promises.specs.Survivors.{fill}
use Rattle.promises.specs.Singly.{marks_of}
use Rattle.promises.proofs.MarkedSingly.{filled_last, marked_singly}
use Rattle.history.specs.Filled.{FilledAsMarked}
use Rattle.history.proofs.TwoLists.{two_lists}

pub filled_as_marked : FilledAsMarked
filled_as_marked sizes codes pixels earlier filled marked set room these history history' output r written save a output' r' written' save' a' =
    ((two_lists sizes sizes (earlier ++ (fill codes ∷ [])) (marks_of pixels) filled marked refl refl history history'
    ).same_bytes output r written save a output' r' written' save' a').1
    (filled_last sizes codes set room earlier ∙ sym (marked_singly sizes codes set room pixels these))
