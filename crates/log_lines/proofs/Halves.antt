-- A bunch's line from its halves.
use mathlib.Core.Path.{◌≡◌}
use mathlib.Core.List.{◌++◌, append_assoc}
use Rattle.log_lines.specs.declared.BunchLine.{BunchLine}
use Rattle.log_lines.specs.Lines.{bunch_line}
use Rattle.log_lines.specs.Halves.{bunch_names, bunch_payload}

pub halves : (b : BunchLine) → bunch_names b ++ bunch_payload b ≡ bunch_line b
unfolding bunch_line
halves b = simp append_assoc
