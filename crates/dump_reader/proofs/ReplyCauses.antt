-- The causes for which a tree is no replies.
use Rattle.std.proofs.Common.{Bool, ◌&&◌, length, refl}
use Rattle.std.specs.Prelude.{codes, nat_le}
use Rattle.serde_json.specs.Data.{Data}
use Rattle.limits.specs.declared.TheConstants.{MOST_BUFFERS, MOST_BUFFER_BYTES, MOST_REPLIES}
use Rattle.json_tree.specs.Reading.{field}
use Rattle.json_tree.specs.Arrays.{list, tuple, nth}
use Rattle.json_tree.specs.Numbers.{word}
use Rattle.json_tree.specs.Profile.{header}
use Rattle.json_tree.proofs.Causes.{after, choice, at_item, at_field, of_list, of_tuple, of_word_number, of_header}
use Rattle.dump_reader.specs.declared.profile.TheConstants.{NEWEST}
use Rattle.dump_reader.specs.Digits.{digits}
use Rattle.dump_reader.specs.Versions.{has_buffers}
use Rattle.dump_reader.specs.Operands.{is_array}
use Rattle.dump_reader.specs.ReplyTree.{two_words, one_word, fill, with_fills, is_an_object, reply, replies}
use Rattle.dump_reader.proofs.OperandCauses.{Fails, shared, of_digits}

of_two_words : (d : Data) → Fails (two_words d)
unfolding two_words
of_two_words d =
    after _ (tuple 2 d) _ (of_tuple _ shared 2 d) λ ds.
    after _ (nth 0 word ds) _ (at_item _ 0 word ds (of_word_number _ shared)) λ r3.
    after _ (nth 1 word ds) _ (at_item _ 1 word ds (of_word_number _ shared)) λ r4. tt

of_one_word : (d : Data) → Fails (one_word d)
unfolding one_word
of_one_word d = after _ (word d) _ (of_word_number _ shared d) λ r3. tt

of_fill : (d : Data) → Fails (fill d)
unfolding fill
of_fill d = after _ (digits d) _ (of_digits d) λ bytes. choice _ (nat_le (length bytes) MOST_BUFFER_BYTES) _ _ tt refl

of_fills : (d : Data) → Fails (with_fills d)
unfolding with_fills
of_fills d =
    after _ (field (codes "r3") word d) _ (at_field _ shared (codes "r3") word d (of_word_number _ shared)) λ r3.
    after _ (field (codes "r4") word d) _ (at_field _ shared (codes "r4") word d (of_word_number _ shared)) λ r4.
    after _ (field (codes "fills") (list MOST_BUFFERS fill) d) _
    (at_field _ shared (codes "fills") (list MOST_BUFFERS fill) d (λ e. of_list _ shared MOST_BUFFERS fill e of_fill)) λ fills. tt

of_reply : (buffered : Bool) (d : Data) → Fails (reply buffered d)
unfolding reply
of_reply buffered d =
    choice _ (is_array d) _ _ (of_two_words d) (choice _ (buffered && is_an_object d) _ _ (of_fills d) (of_one_word d))

pub reply_causes : (d : Data) → Fails (replies d)
unfolding replies
reply_causes d =
    after _ (header (codes "replies") NEWEST d) _ (of_header _ shared (codes "replies") NEWEST d) λ version.
    at_field _ shared (codes "replies") (list MOST_REPLIES (reply (has_buffers version))) d
    (λ e. of_list _ shared MOST_REPLIES (reply (has_buffers version)) e (of_reply (has_buffers version)))
