-- `elements::copy_words` meets its contract: after j turns the slice is the paste of j words.
use Prim.Native.Nat.{◌+◌, ◌<◌}
use native.Mathlib.Numerals.{add-one}
use native.Mathlib.Omega.{arith}
use lib.ListN.{length}
use lib.Seq.{paste-suc}
use Rattle.elements.proofs.copy_words.Goals as goal

pub loop-j-preserved : goal.loop-j-preserved
loop-j-preserved c =
    let l = c.loop-j in
    let a = c.args in
    let hd : a.at + l.j < length a.target.now = omega arith in
    let hs : l.j < length a.source.now = omega arith in
    rw (l.invariant, add-one, paste-suc a.target.now a.at a.source.now l.j 0 hd hs)
