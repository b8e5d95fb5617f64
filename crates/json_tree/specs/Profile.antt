-- What all profiles have: the tree of a text, and the head that names the profile and its version.
use Rattle.std.specs.Prelude.{ℕ, List, codes, ℤ, pos, negsuc, Option, None, Result, Ok, nat_le, ◌&&◌, if◌then◌else◌}
use Rattle.std.specs.Str.{is_utf8}
use Rattle.serde_json.specs.Data.{Data}
use Rattle.serde_json.specs.Read.{read}
use Rattle.json_tree.specs.declared.fault.Cause.TheVariants.{Version}
use Rattle.json_tree.specs.declared.fault.Fault.{Fault}
use Rattle.json_tree.specs.Reading.{◌>>=◌, ◌>>◌, fail, object, field, stated}
use Rattle.json_tree.specs.Numbers.{integer}

-- the tree that bytes are: they are UTF-8, and serde_json reads a value from the text
unfoldable pub tree_of : List ℕ → Option Data
tree_of bytes = if is_utf8 bytes then read bytes else None

abbrev pub version_to : ℕ → ℤ → Result ℕ Fault
version_to newest (pos n) = if nat_le 1 n && nat_le n newest then Ok n else fail Version
version_to newest (negsuc n) = fail Version

-- a version from 1 to the newest
unfoldable pub version : ℕ → Data → Result ℕ Fault
version newest d = do
  z ← integer d
  version_to newest z

-- the keys `valex` and `version` of an object, which come first; the version is given
unfoldable pub header : List ℕ → ℕ → Data → Result ℕ Fault
header profile newest d = do
  object d
  field (codes "valex") (stated profile) d
  field (codes "version") (version newest) d
