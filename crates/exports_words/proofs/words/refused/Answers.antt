-- Each case, by what the match told.
use Rattle.bitio_window.specs.Refusals.{too_few_bits, endless, too_large, zero_maximum, beyond, too_wide, too_long}
use Rattle.exports_words.proofs.words.refused.Goals as goal

pub returns-in-Eof : goal.returns-in-Eof
unfolding too_few_bits endless too_large zero_maximum beyond too_wide too_long
returns-in-Eof c = rw c.in-Eof.is c.seven.ensures

pub returns-in-MalformedIntPacked : goal.returns-in-MalformedIntPacked
unfolding too_few_bits endless too_large zero_maximum beyond too_wide too_long
returns-in-MalformedIntPacked c = rw c.in-MalformedIntPacked.is c.seven-in-MalformedIntPacked.ensures

pub returns-in-IntPackedOverflow : goal.returns-in-IntPackedOverflow
unfolding too_few_bits endless too_large zero_maximum beyond too_wide too_long
returns-in-IntPackedOverflow c = rw c.in-IntPackedOverflow.is c.seven-in-IntPackedOverflow.ensures

pub returns-in-InvalidSerializedIntMax : goal.returns-in-InvalidSerializedIntMax
unfolding too_few_bits endless too_large zero_maximum beyond too_wide too_long
returns-in-InvalidSerializedIntMax c = rw c.in-InvalidSerializedIntMax.is c.seven-in-InvalidSerializedIntMax.ensures

pub returns-in-InvalidBitLength : goal.returns-in-InvalidBitLength
unfolding too_few_bits endless too_large zero_maximum beyond too_wide too_long
returns-in-InvalidBitLength c = rw c.in-InvalidBitLength.is c.seven-in-InvalidBitLength.ensures

pub returns-in-InvalidWidth : goal.returns-in-InvalidWidth
unfolding too_few_bits endless too_large zero_maximum beyond too_wide too_long
returns-in-InvalidWidth c = rw c.in-InvalidWidth.is c.seven-in-InvalidWidth.ensures

pub returns-in-DataTooLong : goal.returns-in-DataTooLong
unfolding too_few_bits endless too_large zero_maximum beyond too_wide too_long
returns-in-DataTooLong c = rw c.in-DataTooLong.is c.seven-in-DataTooLong.ensures
