-- What a lent segment or symbol shows.
use Rattle.image_model.specs.Image.{Segment, Symbol}
use Rattle.elf_view.specs.declared.segment.SegView.{SegView}
use Rattle.elf_view.specs.declared.symbol.SymView.{SymView}

abbrev pub segment_seen : SegView → Segment
segment_seen s = record { vaddr = s.vaddr; held = s.bytes.now; memsz = s.memsz; flags = s.flags }

abbrev pub symbol_seen : SymView → Symbol
symbol_seen s = record { name = s.name.now; value = s.value; size = s.size; binding = s.binding; kind = s.kind; shndx = s.shndx }
