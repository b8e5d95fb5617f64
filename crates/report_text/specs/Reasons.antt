-- Why a file is refused, in print.
use Rattle.std.specs.Prelude.{ℕ, List, [], ◌∷◌, codes, decimal, Option, Some, None}
use Rattle.text_model.specs.Lines.{line}
use Rattle.asm_syntax.specs.declared.path.Step.{Step}
use Rattle.asm_syntax.specs.ShapeFaults.{shape_number}
use Rattle.image_model.specs.declared.error.ElfError.{ElfError}
use Rattle.image_model.specs.declared.error.ElfError.TheVariants as elf
use Rattle.image_model.specs.Errors as elf_errors
use Rattle.layout_file.specs.declared.error.LayoutError.{LayoutError}
use Rattle.layout_file.specs.declared.error.LayoutError.TheVariants as layouts
use Rattle.layout_file.specs.Errors as layout_errors
use Rattle.dump_reader.specs.declared.error.DumpError.{DumpError}
use Rattle.dump_reader.specs.declared.error.DumpError.TheVariants as dumps
use Rattle.dump_reader.specs.DumpFile as dump_files
use Rattle.link_model.specs.declared.link_error.LinkError.{LinkError}
use Rattle.link_model.specs.declared.link_error.LinkError.TheVariants as links
use Rattle.link_model.specs.LinkErrors as link_errors
use Rattle.judge_model.specs.declared.refusal.Refusal.{Refusal}
use Rattle.judge_model.specs.declared.refusal.Refusal.TheVariants.{Layout, Image, Unit, Replies, Link, Entry}
use Rattle.report_text.specs.Places.{path_text}
use Rattle.report_text.specs.declared.reason.Reason as reasons

-- the kind of file, the number and the word of the reason, the place in the file, and a number behind it: that of a shape, a
-- limit, or the second of two ranges
pub record Reason : Type 0 where
  pub part : List ℕ
  pub number : ℕ
  pub word : List ℕ
  pub place : List ℕ
  pub extra : Option ℕ

abbrev pub reason : List ℕ → ℕ → List ℕ → List ℕ → Option ℕ → Reason
reason part number word place extra = record { part = part; number = number; word = word; place = place; extra = extra }

abbrev pub reason_seen : reasons.Reason → Reason
reason_seen r = reason r.part.now r.number r.word.now r.place.now r.extra

abbrev pub extra_words : Option ℕ → List (List ℕ)
extra_words None = []
extra_words (Some n) = decimal n ∷ []

-- of the file that a word names, before the words that stand behind the place
abbrev pub reason_words : List ℕ → Reason → List (List ℕ) → List (List ℕ)
reason_words file r more = codes "refused" ∷ file ∷ r.part ∷ decimal r.number ∷ r.word ∷ r.place ∷ more

abbrev pub refused_line : List ℕ → Reason → List ℕ
refused_line file r = line (reason_words file r (extra_words r.extra))

-- ---- files that are too long, alone or together

abbrev pub store_reason : ℕ → List ℕ → ℕ → Reason
store_reason number word limit = reason (codes "store") number word (decimal limit) None

-- ---- images

abbrev pub elf_word : ElfError → List ℕ
elf_word (elf.Short at) = codes "short"
elf_word (elf.Ident at) = codes "ident"
elf_word (elf.Kind at) = codes "kind"
elf_word (elf.Machine at) = codes "machine"
elf_word (elf.EntrySize at) = codes "entry-size"
elf_word (elf.Dynamic at) = codes "dynamic"
elf_word (elf.SegRange at) = codes "seg-range"
elf_word (elf.SegOverlap at) = codes "seg-overlap"
elf_word (elf.NoSymtab at) = codes "no-symtab"
elf_word (elf.TwoSymtabs at) = codes "two-symtabs"
elf_word (elf.SymRange at) = codes "sym-range"
elf_word (elf.NameEnd at) = codes "name-end"
elf_word (elf.Limit at most) = codes "limit"

abbrev pub elf_extra : ElfError → Option ℕ
elf_extra (elf.Limit at most) = Some most
elf_extra e = None

abbrev pub elf_reason : ElfError → Reason
elf_reason e = reason (codes "elf") (elf_errors.number_of e) (elf_word e) (decimal (elf_errors.offset_of e)) (elf_extra e)

-- ---- dumps and replies. Want of memory is no refusal, so its words are never printed

abbrev pub dump_word : DumpError → List ℕ
dump_word dumps.NotJson = codes "not-json"
dump_word (dumps.Missing path) = codes "missing"
dump_word (dumps.WrongKind path) = codes "wrong-kind"
dump_word (dumps.OutOfRange path) = codes "out-of-range"
dump_word (dumps.UnknownWord path) = codes "unknown-word"
dump_word (dumps.Version path) = codes "version"
dump_word (dumps.Shape path e) = codes "shape"
dump_word (dumps.Refused path) = codes "refused"
dump_word (dumps.Limit path limit) = codes "limit"
dump_word dumps.Memory = codes "memory"

abbrev pub dump_path : DumpError → List Step
dump_path dumps.NotJson = []
dump_path (dumps.Missing path) = path
dump_path (dumps.WrongKind path) = path
dump_path (dumps.OutOfRange path) = path
dump_path (dumps.UnknownWord path) = path
dump_path (dumps.Version path) = path
dump_path (dumps.Shape path e) = path
dump_path (dumps.Refused path) = path
dump_path (dumps.Limit path limit) = path
dump_path dumps.Memory = []

abbrev pub dump_extra : DumpError → Option ℕ
dump_extra (dumps.Shape path e) = Some (shape_number e)
dump_extra (dumps.Limit path limit) = Some limit
dump_extra e = None

abbrev pub dump_reason : List ℕ → DumpError → Reason
dump_reason part e = reason part (dump_files.number_of e) (dump_word e) (path_text (dump_path e)) (dump_extra e)

-- ---- layouts

abbrev pub layout_word : LayoutError → List ℕ
layout_word layouts.NotJson = codes "not-json"
layout_word (layouts.Missing path) = codes "missing"
layout_word (layouts.WrongKind path) = codes "wrong-kind"
layout_word (layouts.OutOfRange path) = codes "out-of-range"
layout_word (layouts.UnknownWord path) = codes "unknown-word"
layout_word (layouts.Version path) = codes "version"
layout_word (layouts.RangeOrder path) = codes "range-order"
layout_word (layouts.RangeMeets earlier later) = codes "range-meets"
layout_word (layouts.Unaligned path) = codes "unaligned"
layout_word layouts.Memory = codes "memory"
layout_word (layouts.Limit path limit) = codes "limit"

-- a path, or the number of the first of two ranges
abbrev pub layout_place : LayoutError → List ℕ
layout_place layouts.NotJson = path_text []
layout_place (layouts.Missing path) = path_text path
layout_place (layouts.WrongKind path) = path_text path
layout_place (layouts.OutOfRange path) = path_text path
layout_place (layouts.UnknownWord path) = path_text path
layout_place (layouts.Version path) = path_text path
layout_place (layouts.RangeOrder path) = path_text path
layout_place (layouts.RangeMeets earlier later) = decimal earlier
layout_place (layouts.Unaligned path) = path_text path
layout_place layouts.Memory = path_text []
layout_place (layouts.Limit path limit) = path_text path

abbrev pub layout_extra : LayoutError → Option ℕ
layout_extra (layouts.RangeMeets earlier later) = Some later
layout_extra (layouts.Limit path limit) = Some limit
layout_extra e = None

abbrev pub layout_reason : LayoutError → Reason
layout_reason e = reason (codes "layout") (layout_errors.number_of e) (layout_word e) (layout_place e) (layout_extra e)

-- ---- linking

abbrev pub link_word : LinkError → List ℕ
link_word (links.UnitTwice u) = codes "unit-twice"
link_word (links.DefinedTwice u name) = codes "defined-twice"
link_word (links.Undeclared u name) = codes "undeclared"
link_word (links.SigDiffers u name) = codes "sig-differs"
link_word links.NoEntry = codes "no-entry"
link_word links.Memory = codes "memory"
link_word (links.TooBig u name) = codes "too-big"

-- the name at fault, or that of the unit
abbrev pub link_name : List ℕ → LinkError → List ℕ
link_name unit (links.DefinedTwice u name) = name
link_name unit (links.Undeclared u name) = name
link_name unit (links.SigDiffers u name) = name
link_name unit (links.TooBig u name) = name
link_name unit e = unit

abbrev pub link_reason : List ℕ → LinkError → Reason
link_reason unit e = reason (codes "link") (link_errors.number_of e) (link_word e) (link_name unit e) None

-- ---- all

abbrev pub reason_of : Refusal → Reason
reason_of (Layout e) = layout_reason e
reason_of (Image e) = elf_reason e
reason_of (Unit u e) = dump_reason (codes "dump") e
reason_of (Replies e) = dump_reason (codes "replies") e
reason_of (Link u unit e) = link_reason unit e
reason_of (Entry name) = link_reason name links.NoEntry
