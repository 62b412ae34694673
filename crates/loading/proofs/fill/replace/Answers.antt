-- `loading::fill::replace` meets its contract: the entries give the image's pixels one by one.
use Prim.Native.Nat.{ℕ}
use native.Mathlib.Omega.{arith}
use lib.ListN.{length}
use borrow.Author.Rules.{rules}
use Rattle.std.proofs.lemmas.Iterator.{YieldsList-from_range, serves_from_Range}
use Rattle.std.proofs.lemmas.Iterator.Consumers.{YieldsList-from_filter_map}
use Rattle.image.specs.Parts.{entry_at}
use Rattle.loading.specs.Filled.{pixel_of, pixels_given}
use Rattle.loading.proofs.EntryPixels.{given_at}
use Rattle.loading.proofs.fill.replace.Goals as goal

pub build_with-requires : goal.build_with-requires
build_with-requires c =
    let every = YieldsList-from_range 0 _ (length c.args.levels.now) c.filter_map-pixels.ensures.source (omega arith) in
    let pixel = λ (i : ℕ). pixel_of (entry_at c.args.codes.now c.args.levels.now i) in
    record {
      can = (tt, tt, serves_from_Range (λ x q k. search rules) (λ x from below. search rules));
      ends = tt;
      due = record {
        all = record {
          codes = pixels_given c.args.codes.now c.args.levels.now;
          due = given_at c.requires c.empty_stack-stack.ensures c.of.ensures
              (YieldsList-from_filter_map _ pixel every c.filter_map-pixels.ensures.closure (λ x r q k. search rules));
        };
        number_is = c.requires.number_is;
      };
    }

pub returns : goal.returns
returns c =
    let every = YieldsList-from_range 0 _ (length c.args.levels.now) c.filter_map-pixels.ensures.source (omega arith) in
    let pixel = λ (i : ℕ). pixel_of (entry_at c.args.codes.now c.args.levels.now i) in
    c.build_with.ensures.right (pixels_given c.args.codes.now c.args.levels.now)
    (given_at c.requires c.empty_stack-stack.ensures c.of.ensures
    (YieldsList-from_filter_map _ pixel every c.filter_map-pixels.ensures.closure (λ x r q k. search rules)))
    c.requires.number_is
