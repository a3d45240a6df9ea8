-- What is read of a pair, and of it as an entry.
use Rattle.std.proofs.Common.{◌≡◌, refl, arith, length, ◌∷◌, ℕ, List, Option, Some, None, option_map, option_and_then, sym, ap, ◌∙◌}
use Rattle.std.specs.Borrow.{Bor}
use Rattle.ild_data.specs.Data.{Data, bytes, list, no_items, item, items_list}
use Rattle.ild_cbor.specs.declared.node.Node.{Node}
use Rattle.ild_cbor.specs.Nodes.{HasData, IsPart}
use Rattle.ild_cbor.specs.Scalar.{bytes_of}
use Rattle.ild_cbor.specs.Span.{place_of}
use Rattle.ild_typed.specs.NodeReading.{text_in, key_in, pair_in, entry_in, entry_of_pair}
use Rattle.ild_node_slots.specs.inside.Parts.{PairIs, EntryIn}
use Rattle.ild_cbor.specs.Pairing.{FindsPair}

entry_made : (n b : Node) (t v : Data) (m : Option (List ℕ)) (r : Option (Bor (List ℕ))) → option_map (λ s. s.now) r ≡ m → IsPart n b (place_of t 1) v
    → EntryIn n t (option_map (λ k. (k, v)) m) (option_map (λ s. (s, b)) r)
entry_made n b t v None None is part = tt
entry_made n b t v None (Some s) is part = absurd cc
entry_made n b t v (Some k) None is part = absurd cc
entry_made n b t v (Some k) (Some s) is part = let same : s.now ≡ k = cc in (same, part)

key_made : (d : Data) (ones : List ℕ) → Some ones ≡ bytes_of d → key_in d ≡ text_in ones
key_made (bytes k) ones is = let same : ones ≡ k = cc in ap text_in (sym same)
key_made d ones is = absurd cc

entry_by : (n a b : Node) (t : Data) (ones : List ℕ) (r : Option (Bor (List ℕ))) (o : Option (Data × Data)) → PairIs n t o (Some (a, b)) → ((d : Data) → HasData a d → Some ones ≡ bytes_of d)
    → option_map (λ s. s.now) r ≡ text_in ones → EntryIn n t (option_and_then entry_of_pair o) (option_map (λ s. (s, b)) r)
entry_by n a b t ones r None pair keys is = absurd pair
entry_by n a b t ones r (Some x) pair keys is = entry_made n b t x.1 (key_in x.0) r (is ∙ sym (key_made x.0 ones (keys x.0 pair.0.stands))) pair.1

pub entry-made : (n a b : Node) (t : Data) (ones : List ℕ) (r : Option (Bor (List ℕ))) → PairIs n t (pair_in t) (Some (a, b)) → ((d : Data) → HasData a d → Some ones ≡ bytes_of d)
    → option_map (λ s. s.now) r ≡ text_in ones → EntryIn n t (entry_in t) (option_map (λ s. (s, b)) r)
entry-made n a b t ones r pair keys is = entry_by n a b t ones r (pair_in t) pair keys is

count_same : (a b : ℕ) → ◌≡◌ {A = Option ℕ} (Some a) (Some b) → a ≡ b
count_same a b is = cc

pub pair-found : (n : Node) (t : Data) (r : Option (Node × Node)) → FindsPair n t r → PairIs n t (pair_in t) r
pair-found n (list no_items) None is = tt
pair-found n (list (item a no_items)) None is = tt
pair-found n (list (item a (item b no_items))) None is = absurd (is (item a (item b no_items)) refl refl)
pair-found n (list (item a (item b (item c ds)))) None is = tt
pair-found n (list no_items) (Some y) is = absurd is.1
pair-found n (list (item a no_items)) (Some y) is = absurd is.2
pair-found n (list (item a (item b no_items))) (Some y) is = (is.1, is.2)
pair-found n (list (item a (item b (item c ds)))) (Some y) is = let many : length (a ∷ b ∷ c ∷ items_list ds) ≡ 2 = count_same (length (a ∷ b ∷ c ∷ items_list ds)) 2 is.0 in absurd (omega arith)
pair-found n t None is = tt
pair-found n t (Some y) is = absurd is.1
