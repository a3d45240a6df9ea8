-- Blank data are spelled as long.
use Rattle.std.proofs.Common.{◌≡◌, ℕ, suc, ◌+◌, List, ◌∷◌, ◌++◌, length, refl, sym, ap, ◌∙◌, arith}
use Rattle.std.proofs.lemmas.List.{length-append, length-replicate}
use Rattle.ild_data.specs.Data.{Data, null, boolean, integer, text, bytes, list, map, link, Items, no_items, item, Members, no_members, member, items_list, members_list}
use Rattle.ild_data.specs.Spell.{head, spell, spell_items, spell_members, spell_text, spell_link}
use Rattle.ild_data_alike.specs.Blank.{blank, blank_items, blank_members, blank_link}

pub blank_length : (s : List ℕ) → length (blank_link s) ≡ length s
blank_length s = length-replicate (length s) 0

-- links of one length are one
pub blank_same : (s t : List ℕ) → length s ≡ length t → blank_link s ≡ blank_link t
blank_same s t same = rw same refl

abbrev link_size : ℕ → ℕ
link_size n = suc (suc (length (head 2 (suc n)) + suc n))

link_length : (s : List ℕ) → length (spell_link s) ≡ link_size (length s)
link_length s = ap (λ n. suc (suc n)) (length-append (head 2 (length (0 ∷ s))) (0 ∷ s))

many_items : (ds : Items) → length (items_list (blank_items ds)) ≡ length (items_list ds)
many_items no_items = refl
many_items (item d ds) = ap suc (many_items ds)

many_members : (ms : Members) → length (members_list (blank_members ms)) ≡ length (members_list ms)
many_members no_members = refl
many_members (member k d ms) = ap suc (many_members ms)

joins : (a b c d : List ℕ) → length a ≡ length c → length b ≡ length d → length (a ++ b) ≡ length (c ++ d)
joins a b c d p q = let x = length-append a b in let y = length-append c d in omega arith

mutual
  blank_long : (d : Data) → length (spell (blank d)) ≡ length (spell d)
  blank_long null = refl
  blank_long (boolean b) = refl
  blank_long (integer n) = refl
  blank_long (text s) = refl
  blank_long (bytes s) = refl
  blank_long (list ds) = joins (head 4 (length (items_list (blank_items ds)))) (spell_items (blank_items ds)) (head 4 (length (items_list ds))) (spell_items ds) (ap (λ n. length (head 4 n)) (many_items ds)) (items_long ds)
  blank_long (map ms) = joins (head 5 (length (members_list (blank_members ms)))) (spell_members (blank_members ms)) (head 5 (length (members_list ms))) (spell_members ms) (ap (λ n. length (head 5 n)) (many_members ms)) (members_long ms)
  blank_long (link s) = link_length (blank_link s) ∙ ap link_size (blank_length s) ∙ sym (link_length s)

  items_long : (ds : Items) → length (spell_items (blank_items ds)) ≡ length (spell_items ds)
  items_long no_items = refl
  items_long (item d ds) = joins (spell (blank d)) (spell_items (blank_items ds)) (spell d) (spell_items ds) (blank_long d) (items_long ds)

  members_long : (ms : Members) → length (spell_members (blank_members ms)) ≡ length (spell_members ms)
  members_long no_members = refl
  members_long (member k d ms) =
      joins (spell_text k ++ spell (blank d)) (spell_members (blank_members ms)) (spell_text k ++ spell d) (spell_members ms) (joins (spell_text k) (spell (blank d)) (spell_text k) (spell d) refl (blank_long d)) (members_long ms)

pub as_long : (d e : Data) → blank d ≡ blank e → length (spell d) ≡ length (spell e)
as_long d e same = sym (blank_long d) ∙ ap (λ x. length (spell x)) same ∙ blank_long e
