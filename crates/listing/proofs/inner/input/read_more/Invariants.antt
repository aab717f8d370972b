use Rattle.std.proofs.Common.{◌≡◌, [], length, take}
use Rattle.std.specs.Io.KnownBytes.{Consumes}
use Rattle.listing.proofs.inner.input.read_more.Given as goal

abbrev pub invariant-again : goal.invariant-again
invariant-again g l =
    record {
      size : length l.buffer ≡ length l.fn.buffer;
      kept : take l.held l.buffer ≡ take l.held l.fn.buffer;
      brought : Consumes (g.R.Read.remaining l.fn.source) (g.R.Read.remaining l.source) [];
    }
