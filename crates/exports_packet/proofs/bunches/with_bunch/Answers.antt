-- The words of no bunch, with the header's and the window's in their places.
use mathlib.Core.Path.{refl}
use Rattle.exports_packet.proofs.bunches.with_bunch.Goals as goal

pub returns : goal.returns
returns c = rw (c.put.ensures, c.without_bunch-x.ensures, c.of_header-h.ensures) refl
