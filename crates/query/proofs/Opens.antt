-- Which blocks a window walk opens: a list all that share a pixel with the window, a count those that also have one outside it.
use Rattle.std.proofs.Common.{◌≡◌, ℕ, suc, ◌+◌, ◌≤◌, refl}
use Rattle.pktree.specs.Elements.{Forest, empty, pixel, ◌⧺◌}
use Rattle.pktree.specs.Window.{Window, opened_by_window, crossed_by_window}
use Rattle.pktree.proofs.Forests.{block_count}
use Rattle.pktree.proofs.WindowParts.{NothingSeen, opened_few, crossed_few, opened_join, crossed_join}
use Rattle.query.proofs.SeenParts.{OverEdge}

-- no pixel, of joined elements those of each, none apart from the window, and each over its edge
pub record Opens (opens : Window → Forest → ℕ) (window : Window) : Type 0 where
  pub none : opens window empty ≡ 0
  pub no_pixel : (c : ℕ) → opens window (pixel c empty) ≡ 0
  pub join : (f g : Forest) → opens window (f ⧺ g) ≡ opens window f + opens window g
  pub few : (f : Forest) → opens window f ≤ block_count f
  pub apart : {f : Forest} → NothingSeen window f → opens window f ≡ 0
  pub edge : {f es : Forest} → OverEdge window f es → opens window f ≡ suc (opens window es)

pub list_opens : (window : Window) → Opens opened_by_window window
list_opens window =
    record { none = refl; no_pixel = λ c. refl; join = opened_join window; few = opened_few window; apart = λ h. h.none_opened; edge = λ h. h.opened.one_opened }

pub count_opens : (window : Window) → Opens crossed_by_window window
count_opens window =
    record { none = refl; no_pixel = λ c. refl; join = crossed_join window; few = crossed_few window; apart = λ h. h.none_crossed; edge = λ h. h.crossed }
