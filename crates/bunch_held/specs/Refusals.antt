-- What a call refuses, in the paper's terms.
use Rattle.bitio_window.specs.Refusals.{Refusal, unsound, payload_too_long, payload_short, output_short, too_few_places}
use Rattle.bunch_held.specs.declared.BunchError.{BunchError}

-- the paper's number and values for each case
abbrev pub error_paper : BunchError → Refusal
error_paper BunchError.Unsound = unsound
error_paper (BunchError.PayloadTooLong count) = payload_too_long count
error_paper (BunchError.PayloadShort count) = payload_short count
error_paper (BunchError.OutputShort bytes) = output_short bytes
error_paper (BunchError.ListFull places) = too_few_places places
