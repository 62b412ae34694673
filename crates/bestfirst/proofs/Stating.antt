-- The values that the code states are those of the search.
use Rattle.std.specs.Prelude as prelude
use Rattle.std.specs.Prelude.{Some, None}
use Prim.Native.Nat.{ℕ, ◌*◌, ◌≤◌, ◌<◌}
use native.Mathlib.Omega.{arith}
use native.Mathlib.Nat.{mul-le-mul}
use mathlib.Core.Path.{◌≡◌, refl, ap, ◌∙◌}
use mathlib.Core.Bool.{Bool, true, false}
use mathlib.Core.Option.{Option, none, some}
use lib.ListN.{length}
use Rattle.morton.specs.Code.{x_of, y_of}
use Rattle.morton.proofs.Codes.{gather_below}
use Rattle.searching.specs.Distance.{apart, squared_distance}
use Rattle.searching.specs.Search.{Search, found, all_farther}
use Rattle.searching.specs.Nearest.{Nearest, is_some, code_found, distance_found, limit_of, nearest_by}
use Rattle.answers.specs.declared.NearPixel.{NearPixel}
use Rattle.answers.specs.Answer.{pixel_told, values_of}
use Rattle.meeting.specs.declared.best.Best.{Best}
use Rattle.meeting.specs.Place.{beyond}
use Rattle.meeting.specs.Best.{best_of}
use Rattle.bestfirst.specs.declared.Searched.{Searched}
use Rattle.bestfirst.specs.declared.Searched.TheVariants.{Known}
use Rattle.bestfirst.specs.Searches.{DistanceShown, PixelShown, Stated}

-- no squared distance reaches 2 ^ 33
pub distance_below : (place code : ℕ) → squared_distance place code < beyond
unfolding squared_distance
distance_below place code =
    let x : apart (x_of place) (x_of code) * apart (x_of place) (x_of code) < 4294967296 = square (x_of place) (x_of code) (gather_below 16 place) (gather_below 16 code) in
    let y : apart (y_of place) (y_of code) * apart (y_of place) (y_of code) < 4294967296 = square (y_of place) (y_of code) (gather_below 16 _) (gather_below 16 _) in
    omega (arith, x, y)
  where
    square : (a b : ℕ) → a < 65536 → b < 65536 → apart a b * apart a b < 4294967296
    square a b p q = let far : apart a b ≤ 65535 = omega arith in omega (arith, mul-le-mul far far)

module _ {distance : ℕ} where
  pub distance_as_found : distance < beyond → DistanceShown distance distance
  distance_as_found h = record { says = go }
    where
      go : (place : ℕ) (o : Option ℕ) → distance ≡ (best_of place o).distance → distance ≡ distance_found place o
      go place none e = absurd (omega arith)
      go place (some p) e = e

  pub none_as_zero : beyond ≤ distance → DistanceShown distance 0
  none_as_zero h = record { says = go }
    where
      go : (place : ℕ) (o : Option ℕ) → distance ≡ (best_of place o).distance → 0 ≡ distance_found place o
      go place none e = refl
      go place (some p) e = absurd (omega (arith, e, distance_below place p))

-- the pixel is told where the distance is one
module _ {best : Best} where
  pub pixel_as_found : best.distance < beyond → PixelShown best (Some (record { code = best.code; distance = best.distance }))
  pixel_as_found h = record { says = go }
    where
      go : (place : ℕ) (o : Option ℕ) → best ≡ best_of place o → (true ≡ is_some o) × (best.code ≡ code_found o) × (best.distance ≡ distance_found place o)
      go place none e = absurd (omega (arith, ap (λ (b : Best). b.distance) e))
      go place (some p) e = (refl, ap (λ (b : Best). b.code) e, ap (λ (b : Best). b.distance) e)

  pub pixel_as_none : beyond ≤ best.distance → PixelShown best None
  pixel_as_none h = record { says = go }
    where
      go : (place : ℕ) (o : Option ℕ) → best ≡ best_of place o → (false ≡ is_some o) × (0 ≡ code_found o) × (0 ≡ distance_found place o)
      go place none e = (refl, refl, refl)
      go place (some p) e = absurd (omega (arith, ap (λ (b : Best). b.distance) e, distance_below place p))

abbrev stating : Bool → ℕ → ℕ → ℕ → ℕ → Bool → Nearest
stating is_found code distance opened limit complete =
    record { is_found = is_found; code = code; distance = distance; opened = opened; limit = limit; complete = complete }

pub stated : {best : Best} {opened limit : ℕ} {complete : Bool} {pixel : prelude.Option NearPixel} → PixelShown best pixel
    → Stated best opened limit complete (Known (record { pixel = pixel; opened = opened; limit = limit; complete = complete }))
stated {best} {opened} {limit} {complete} {pixel} shown =
    record { nearest = record { pixel = pixel; opened = opened; limit = limit; complete = complete }; is = refl; opened_is = refl; says = go }
  where
    go : (place : ℕ) (o : Option ℕ) → best ≡ best_of place o
        → stating (prelude.is_some pixel) (pixel_told pixel).code (pixel_told pixel).distance opened limit complete ≡ stating (is_some o) (code_found o) (distance_found place o) opened limit complete
    go place o e = let s = shown.says place o e in rw (s.0, s.1, s.2)

-- of a search that has found o
pub stated_values : {best : Best} {opened limit : ℕ} {complete : Bool} {r : Searched} (n : Stated best opened limit complete r) (place : ℕ) (s : Search) (o : Option ℕ) → found place s ≡ o
    → best ≡ best_of place o → length s.opened ≡ opened → limit_of place o s.met ≡ limit → all_farther place o s.met ≡ complete → values_of n.nearest ≡ nearest_by place s
stated_values n place s o f b e l c = n.says place o b ∙ go f e l c
  where
    go : {opened limit : ℕ} {complete : Bool} → found place s ≡ o → length s.opened ≡ opened → limit_of place o s.met ≡ limit → all_farther place o s.met ≡ complete
        → stating (is_some o) (code_found o) (distance_found place o) opened limit complete ≡ nearest_by place s
    go f e l c = rw (f, ← e, ← l, ← c)
