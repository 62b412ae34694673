-- `saving::write_image` meets its contract: the header first, then the walk from the root.
use Rattle.std.proofs.Common.{refl, ap}
use Rattle.saving.proofs.SaveAnswers.{broken_said}
use Rattle.saving.proofs.write_image.Goals as goal

pub returns-in_err-save_block : goal.returns-in_err-save_block
returns-in_err-save_block c =
    record {
      layout = c.slots.result.layout;
      laid = c.slots.ensures.laid;
      headed = c.put_header.new.output;
      head = c.put_header.ensures;
      next = _;
      left = _;
      ending = c.save_block.result;
      walk = rw (c.wide.ensures, c.wide-2.ensures, ap (λ r. r.now) c.slots.ensures.same) at c.save_block.ensures;
      said = broken_said _ c.in_err-save_block.was _ c.from_residual.ensures.0;
    }

pub returns : goal.returns
returns c =
    record {
      layout = c.slots.result.layout;
      laid = c.slots.ensures.laid;
      headed = c.put_header.new.output;
      head = c.put_header.ensures;
      next = _;
      left = _;
      ending = c.save_block.result;
      walk = rw (c.wide.ensures, c.wide-2.ensures, ap (λ r. r.now) c.slots.ensures.same) at c.save_block.ensures;
      said = (refl, c.in_ok-save_block.was);
    }
