-- Bytes as digits.
use Rattle.std.specs.Prelude.{ℕ, List, Result, Ok, Err}
use Rattle.serde_json.specs.Data.{Data}
use Rattle.hex.specs.Hex.{decode_of}
use Rattle.hex.specs.declared.error.FromHexError.{FromHexError}
use Rattle.json_tree.specs.declared.fault.Cause.TheVariants.{OutOfRange}
use Rattle.json_tree.specs.declared.fault.Fault.{Fault}
use Rattle.json_tree.specs.Reading.{◌>>=◌, fail, text}

abbrev pub if_decoded : Result (List ℕ) FromHexError → Result (List ℕ) Fault
if_decoded (Ok bytes) = Ok bytes
if_decoded (Err e) = fail OutOfRange

-- an even number of hexadecimal digits of both cases, two for each byte, the high four bits first
unfoldable pub digits : Data → Result (List ℕ) Fault
digits d = do
  s ← text d
  if_decoded (decode_of s)
