-- The two tests of a block in one answer.
use Prim.Native.Nat.{ℕ}
use mathlib.Core.Path.{◌≡◌, sym, ◌∙◌}
use mathlib.Core.Bool.{Bool, true, false}
use Rattle.windows.specs.declared.Corners.{Corners}
use Rattle.windows.specs.declared.Lying.TheVariants.{Apart, OverEdge, Inside}
use Rattle.windows.specs.Corners.{SharingTested, InsideTested, LyingTested}

module _ {corners : Corners} {level code : ℕ} {b : Bool} (sharing : SharingTested corners level code b) where
  pub lies_apart : b ≡ false → LyingTested corners level code Apart
  lies_apart e = record { says = λ on ordered es. sym (sharing.says on ordered es) ∙ e }

  module _ (shares : b ≡ true) {i : Bool} (inside : InsideTested corners level code i) where
    pub lies_within : i ≡ true → LyingTested corners level code Inside
    lies_within e = record { says = λ on ordered es. (sym (sharing.says on ordered es) ∙ shares, sym (inside.says on es) ∙ e) }

    pub lies_over : i ≡ false → LyingTested corners level code OverEdge
    lies_over e = record { says = λ on ordered es. (sym (sharing.says on ordered es) ∙ shares, sym (inside.says on es) ∙ e) }
