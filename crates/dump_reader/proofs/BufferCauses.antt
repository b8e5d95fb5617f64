-- The causes for which buffers are not read.
use Rattle.std.proofs.Common.{Bool, true, false}
use Rattle.std.specs.Prelude.{codes}
use Rattle.serde_json.specs.Data.{Data}
use Rattle.limits.specs.declared.TheConstants.{MOST_BUFFERS, MOST_BUFFER_BYTES}
use Rattle.json_tree.specs.Reading.{word_of}
use Rattle.json_tree.specs.Arrays.{items, list, counted, nth, chosen}
use Rattle.json_tree.specs.Numbers.{natural}
use Rattle.json_tree.proofs.Causes.{after, behind, choice, at_item, at_field, of_word, of_items, of_list, of_counted, of_chosen, of_natural}
use Rattle.dump_reader.specs.Operands.{is_array}
use Rattle.dump_reader.specs.UnitTree.{buffer_words, size_words, argument_place, argument_size, fixed_size, buffer_size, buffer, buffers}
use Rattle.dump_reader.proofs.OperandCauses.{Fails, shared}

of_place : (d : Data) → Fails (argument_place d)
of_place d = of_natural _ shared 255 d

of_argument_size : (d : Data) → Fails (argument_size d)
unfolding argument_size
of_argument_size d =
    after _ (items d) _ (of_items _ shared d) λ ds.
    behind _ (chosen (word_of size_words) ds) _ (of_chosen _ shared (word_of size_words) ds (of_word _ shared size_words))
    (behind _ (counted 2 ds) _ (of_counted _ shared 2 ds)
    (after _ (nth 1 argument_place ds) _ (at_item _ 1 argument_place ds of_place) λ n. tt))

of_fixed_size : (d : Data) → Fails (fixed_size d)
unfolding fixed_size
of_fixed_size d = after _ (natural MOST_BUFFER_BYTES d) _ (of_natural _ shared MOST_BUFFER_BYTES d) λ n. tt

of_size : (d : Data) → Fails (buffer_size d)
unfolding buffer_size
of_size d = choice _ (is_array d) _ _ (of_argument_size d) (of_fixed_size d)

of_buffer : (d : Data) → Fails (buffer d)
unfolding buffer
of_buffer d =
    after _ (items d) _ (of_items _ shared d) λ ds.
    after _ (chosen (word_of buffer_words) ds) _ (of_chosen _ shared (word_of buffer_words) ds (of_word _ shared buffer_words)) λ w.
    behind _ (counted 3 ds) _ (of_counted _ shared 3 ds)
    (after _ (nth 1 argument_place ds) _ (at_item _ 1 argument_place ds of_place) λ a.
    after _ (nth 2 buffer_size ds) _ (at_item _ 2 buffer_size ds of_size) λ s. tt)

pub of_buffers : (buffered : Bool) (d : Data) → Fails (buffers buffered d)
unfolding buffers
of_buffers true d = at_field _ shared (codes "buffers") (list MOST_BUFFERS buffer) d (λ e. of_list _ shared MOST_BUFFERS buffer e of_buffer)
of_buffers false d = tt
