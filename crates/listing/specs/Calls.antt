-- What a call that moves bytes came to. It answers how many bytes it moved, or an error, which has the system's number; that of a
-- call which a signal interrupted is EINTR, 4.
use Rattle.std.specs.Prelude.{ℕ, Bool, false, ℤ, pos, negsuc, ◌==◌, Option, Some, None, option_and_then, if◌then◌else◌, Result, Ok, Err}
use Rattle.std.specs.declared.io.Error.{Error}
use Rattle.std.specs.IoError.{raw_os_error}
use Rattle.std.specs.Result.{result_unwrap_or}
use Rattle.listing.specs.declared.inner.moved.Failure.{Failure}
use Rattle.listing.specs.declared.inner.output.Unwritten.{Unwritten}

-- no error's number is below 0
abbrev pub error_number : ℤ → Option ℕ
error_number (pos n) = Some n
error_number (negsuc n) = None

-- an error that isn't the system's has no number
abbrev pub os_number : Error → Option ℕ
os_number e = option_and_then error_number (raw_os_error e)

-- how many bytes a call moved, or why none
abbrev pub Transfer : Type 0
Transfer = Result ℕ Failure

abbrev pub moved_by : Result ℕ Error → Transfer
moved_by (Ok n) = Ok n
moved_by (Err e) = Err (record { number = os_number e })

abbrev pub bytes_moved : Transfer → ℕ
bytes_moved m = result_unwrap_or m 0

abbrev pub is_eintr : Option ℕ → Bool
is_eintr (Some n) = n == 4
is_eintr None = false

abbrev pub is_interrupted : Failure → Bool
is_interrupted f = is_eintr f.number

-- How many bytes more are out where a write is made again, or the number of the error that ends the writing. A write that took no byte
-- would take none again; one that a signal interrupted is made again.
abbrev pub after_write : Transfer → Result ℕ (Option ℕ)
after_write (Ok n) = if n == 0 then Err None else Ok n
after_write (Err f) = if is_interrupted f then Ok 0 else Err f.number

-- how many of `used` bytes are out
abbrev pub bytes_out : ℕ → Result Unit Unwritten → ℕ
bytes_out used (Ok u) = used
bytes_out used (Err h) = h.bytes
