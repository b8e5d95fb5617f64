use Rattle.std.proofs.Common.{rules, refl}
use Rattle.std.specs.Prelude.{nat_le}
use Rattle.std.proofs.lemmas.List.Sorted.{IsPartitionPoint-from_clause, IsPartitionedBy-leb}
use Rattle.elf_view.proofs.ByAddressLemmas.{point_map}
use Rattle.elf_view.specs.ByAddress.{begin, numbered_seen}
use Rattle.elf_view.specs.declared.loaded_segments.NumberedSegment.{NumberedSegment}
use Rattle.elf_view.proofs.loaded_segments.started.Goals as goal

pub returns-clause-point : goal.returns-clause-point
returns-clause-point c =
    let xs = c.args.segments.now in
    let n = c.partition_point.result in
    point_map numbered_seen begin (λ s. refl) c.args.a xs n c.partition_point.ensures.bound
    (IsPartitionPoint-from_clause (λ (s : NumberedSegment). nat_le (begin s) c.args.a) xs n c.partition_point.ensures.partitioned
    (IsPartitionedBy-leb begin xs c.args.a c.requires) (λ a r f h. search rules))
