-- The causes for which an array is no item of a variable's data.
use Rattle.std.proofs.Common.{List}
use Rattle.std.specs.Prelude.{◌^◌}
use Rattle.serde_json.specs.Data.{Data}
use Rattle.limits.specs.declared.TheConstants.{MOST_VARIABLE_BYTES}
use Rattle.json_tree.specs.Reading.{name}
use Rattle.json_tree.specs.Arrays.{items, counted, nth, chosen}
use Rattle.json_tree.specs.Numbers.{natural, wrapped, word, signed32}
use Rattle.json_tree.proofs.Causes.{after, behind, at_item, of_name, of_items, of_counted, of_chosen, of_natural, of_wrapped}
use Rattle.json_tree.proofs.Causes.{of_word_number, of_signed32}
use Rattle.dump_reader.specs.declared.init.InitForm.{InitForm}
use Rattle.dump_reader.specs.declared.init.InitForm.TheVariants as InitForms
use Rattle.dump_reader.specs.Words.{allowed_word}
use Rattle.dump_reader.specs.Digits.{digits}
use Rattle.dump_reader.specs.UnitTree.{init_words, int8, int16, int32, bytes, space, addr, init_operands, init}
use Rattle.dump_reader.proofs.OperandCauses.{Fails, shared, of_allowed, of_digits}

of_int8 : (ds : List Data) → Fails (int8 ds)
unfolding int8
of_int8 ds =
    behind _ (counted 2 ds) _ (of_counted _ shared 2 ds)
    (after _ (nth 1 (wrapped (2 ^ 8)) ds) _ (at_item _ 1 (wrapped (2 ^ 8)) ds (of_wrapped _ shared (2 ^ 8))) λ n. tt)

of_int16 : (ds : List Data) → Fails (int16 ds)
unfolding int16
of_int16 ds =
    behind _ (counted 2 ds) _ (of_counted _ shared 2 ds)
    (after _ (nth 1 (wrapped (2 ^ 16)) ds) _ (at_item _ 1 (wrapped (2 ^ 16)) ds (of_wrapped _ shared (2 ^ 16))) λ n. tt)

of_int32 : (ds : List Data) → Fails (int32 ds)
unfolding int32
of_int32 ds =
    behind _ (counted 2 ds) _ (of_counted _ shared 2 ds)
    (after _ (nth 1 word ds) _ (at_item _ 1 word ds (of_word_number _ shared)) λ n. tt)

of_bytes : (ds : List Data) → Fails (bytes ds)
unfolding bytes
of_bytes ds =
    behind _ (counted 2 ds) _ (of_counted _ shared 2 ds)
    (after _ (nth 1 digits ds) _ (at_item _ 1 digits ds of_digits) λ bs. tt)

of_space : (ds : List Data) → Fails (space ds)
unfolding space
of_space ds =
    behind _ (counted 2 ds) _ (of_counted _ shared 2 ds)
    (after _ (nth 1 (natural MOST_VARIABLE_BYTES) ds) _ (at_item _ 1 (natural MOST_VARIABLE_BYTES) ds
    (of_natural _ shared MOST_VARIABLE_BYTES)) λ n. tt)

of_addr : (ds : List Data) → Fails (addr ds)
unfolding addr
of_addr ds =
    behind _ (counted 3 ds) _ (of_counted _ shared 3 ds)
    (after _ (nth 1 name ds) _ (at_item _ 1 name ds (of_name _ shared)) λ symbol.
    after _ (nth 2 signed32 ds) _ (at_item _ 2 signed32 ds (of_signed32 _ shared)) λ offset. tt)

of_init_operands : (form : InitForm) (ds : List Data) → Fails (init_operands form ds)
unfolding init_operands
of_init_operands InitForms.Int8 ds = of_int8 ds
of_init_operands InitForms.Int16 ds = of_int16 ds
of_init_operands InitForms.Int32 ds = of_int32 ds
of_init_operands InitForms.Bytes ds = of_bytes ds
of_init_operands InitForms.Space ds = of_space ds
of_init_operands InitForms.Addr ds = of_addr ds

pub of_init : (d : Data) → Fails (init d)
unfolding init
of_init d =
    after _ (items d) _ (of_items _ shared d) λ ds.
    after _ (chosen (allowed_word init_words) ds) _ (of_chosen _ shared (allowed_word init_words) ds (of_allowed init_words)) λ form.
    of_init_operands form ds
