-- Both copies are `copy_by_bytes`': the block holds the bytes whole.
use native.Mathlib.Omega.{arith}
use borrow.Author.Rules.{rules}
use Rattle.bunch_places.proofs.Blocks.{by_block}
use Rattle.bunch_places.proofs.inner.move_block.Goals as goal

pub returns : goal.returns
returns c =
    by_block c.args.from c.args.to 256 c.args.arena.now _ (search rules) (omega arith) c.copy_by_bytes.ensures c.copy_by_bytes-2.ensures
