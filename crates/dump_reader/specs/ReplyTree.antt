-- The grammar of replies: what external calls leave in the registers that a call may change, and in the buffers that they fill.
use Rattle.std.specs.Prelude.{◌≡◌, ℕ, Bool, ◌&&◌, nat_le, List, [], length, is_some, Result, Ok, codes, if◌then◌else◌}
use Rattle.serde_json.specs.Data.{Data}
use Rattle.serde_json.specs.Find.{as_object}
use Rattle.limits.specs.declared.TheConstants.{MOST_BUFFERS, MOST_BUFFER_BYTES, MOST_REPLIES}
use Rattle.asm_syntax.specs.declared.unit.Reply.{Reply}
use Rattle.json_tree.specs.declared.fault.Cause.TheVariants.{Limit}
use Rattle.json_tree.specs.declared.fault.Fault.{Fault}
use Rattle.json_tree.specs.Reading.{◌>>=◌, ◌>>◌, fail, field}
use Rattle.json_tree.specs.Arrays.{list, tuple, nth}
use Rattle.json_tree.specs.Numbers.{word}
use Rattle.json_tree.specs.Profile.{header}
use Rattle.dump_reader.specs.declared.reply.TheConstants.{UNSPECIFIED}
use Rattle.dump_reader.specs.declared.profile.TheConstants.{NEWEST}
use Rattle.dump_reader.specs.Digits.{digits}
use Rattle.dump_reader.specs.Versions.{has_buffers}
use Rattle.dump_reader.specs.Operands.{is_array}

-- the reply with two words in the registers of a result, and the bytes of the buffers that are filled
abbrev pub reply_of : ℕ → ℕ → List (List ℕ) → Reply
reply_of r3 r4 fills = record {
  r0 = UNSPECIFIED;
  r3 = r3;
  r4 = r4;
  r5 = UNSPECIFIED;
  r6 = UNSPECIFIED;
  r7 = UNSPECIFIED;
  r8 = UNSPECIFIED;
  r9 = UNSPECIFIED;
  r10 = UNSPECIFIED;
  r11 = UNSPECIFIED;
  r12 = UNSPECIFIED;
  cr = UNSPECIFIED;
  ctr = UNSPECIFIED;
  lr = UNSPECIFIED;
  xer = UNSPECIFIED;
  fills = fills;
}

-- the words of r3 and r4
unfoldable pub two_words : Data → Result Reply Fault
two_words d = do
  ds ← tuple 2 d
  r3 ← nth 0 word ds
  r4 ← nth 1 word ds
  Ok (reply_of r3 r4 [])

-- the word of r3
unfoldable pub one_word : Data → Result Reply Fault
one_word d = do
  r3 ← word d
  Ok (reply_of r3 UNSPECIFIED [])

unfoldable pub fill : Data → Result (List ℕ) Fault
fill d = do
  bytes ← digits d
  if nat_le (length bytes) MOST_BUFFER_BYTES then Ok bytes else fail (Limit MOST_BUFFER_BYTES)

unfoldable pub with_fills : Data → Result Reply Fault
with_fills d = do
  r3 ← field (codes "r3") word d
  r4 ← field (codes "r4") word d
  fills ← field (codes "fills") (list MOST_BUFFERS fill) d
  Ok (reply_of r3 r4 fills)

abbrev pub is_an_object : Data → Bool
is_an_object d = is_some (as_object d)

unfoldable pub reply : Bool → Data → Result Reply Fault
reply buffered d = if is_array d then two_words d else if buffered && is_an_object d then with_fills d else one_word d

unfoldable pub replies : Data → Result (List Reply) Fault
replies d = do
  version ← header (codes "replies") NEWEST d
  field (codes "replies") (list MOST_REPLIES (reply (has_buffers version))) d

abbrev pub ReplyTree : Data → List Reply → Type 0
ReplyTree d r = replies d ≡ Ok r
