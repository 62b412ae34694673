-- Values copied over a part of a list are those stored one after another.
use Prim.Native.Nat.{ℕ, ◌+◌, ◌-◌, ◌≤◌}
use native.Mathlib.Omega.{arith}
use mathlib.Core.Path.{◌≡◌, sym}
use mathlib.Core.List.{List, append_assoc}
use lib.ListN.{length, take, drop}
use lib.Seq.{sets, sets-eq, drop-drop}
use borrow.Rule.Slice.PartMut.{put_mid}

pub part_put : (l values part : List ℕ) (at n : ℕ) → part ≡ values → length values ≡ n → at + n ≤ length l → put_mid at (at + n - at) l part ≡ sets l at values
part_put l values part at n same long room =
    let cut : at + n - at ≡ length values = omega arith in
    rw (same, cut, drop-drop (length values) at l, ← append_assoc (take at l) values (drop (at + length values) l))
    (sym (sets-eq values l at (omega arith)))
