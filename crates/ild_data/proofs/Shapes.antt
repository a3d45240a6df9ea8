-- Every spelling is a head, a string and parts.
use Rattle.std.proofs.Common.{◌≡◌, ℕ, ◌^◌, ◌<◌, true, false, List, ◌∷◌, ◌++◌, length, length-append, append_assoc, append-nil, refl, sym, ap, ◌∙◌, arith}
use Rattle.std.specs.Prelude.{pos, negsuc}
use Rattle.std.proofs.lemmas.Int.{ints}
use Rattle.ild_data.specs.Data.{Data, null, boolean, integer, text, bytes, list, map, link, Members, no_members, member, items_list, members_list}
use Rattle.ild_data.specs.Spell.{head, spell, spell_text, spell_bytes, spell_items, spell_members}
use Rattle.ild_data.specs.Tree.{IsTree}
use Rattle.ild_data.specs.Shape.{major_of, argument_of, string_of, keys_and_values, parts_of}
use Rattle.ild_data.proofs.Sizes.{items_count, members_count}

pub keys_and_values-spell : (ms : Members) → spell_members ms ≡ spell_items (keys_and_values ms)
keys_and_values-spell no_members = refl
keys_and_values-spell (member k d ms) =
    append_assoc (spell_text k) (spell d) (spell_members ms) ∙ ap (λ (t : List ℕ). spell_text k ++ (spell d ++ t)) (keys_and_values-spell ms)

-- a spelling by its head, string and parts
pub spell_shape : (t : Data) → spell t ≡ head (major_of t) (argument_of t) ++ (string_of t ++ spell_items (parts_of t))
spell_shape null = refl
spell_shape (boolean true) = refl
spell_shape (boolean false) = refl
spell_shape (integer (pos n)) = sym (append-nil (head 0 n))
spell_shape (integer (negsuc n)) = sym (append-nil (head 1 n))
spell_shape (text s) = ap (λ (t : List ℕ). head 3 (length s) ++ t) (sym (append-nil s))
spell_shape (bytes s) = ap (λ (t : List ℕ). head 2 (length s) ++ t) (sym (append-nil s))
spell_shape (list ds) = refl
spell_shape (map ms) = ap (λ (t : List ℕ). head 5 (length (members_list ms)) ++ t) (keys_and_values-spell ms)
spell_shape (link s) = ap (λ (t : List ℕ). 0xd8 ∷ 42 ∷ t) (sym (append-nil (spell_bytes (0 ∷ s))))

-- an argument that is spelled is a number of 64 bits
pub argument_small : (t : Data) → IsTree t → length (spell t) < 2 ^ 64 → argument_of t < 2 ^ 64
argument_small null tree short = omega arith
argument_small (boolean true) tree short = omega arith
argument_small (boolean false) tree short = omega arith
argument_small (integer (pos n)) tree short = omega (arith, ints)
argument_small (integer (negsuc n)) tree short = omega (arith, ints)
argument_small (text s) tree short = omega (arith, length-append (head 3 (length s)) s)
argument_small (bytes s) tree short = omega (arith, length-append (head 2 (length s)) s)
argument_small (list ds) tree short = omega (arith, length-append (head 4 (length (items_list ds))) (spell_items ds), items_count ds)
argument_small (map ms) tree short = omega (arith, length-append (head 5 (length (members_list ms))) (spell_members ms), members_count ms)
argument_small (link s) tree short = omega arith
