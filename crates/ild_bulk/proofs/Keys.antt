-- Hashed entries: parts of them by index are those of parts of the entries.
use Rattle.std.proofs.Common.{◌≡◌, ◌<◌, ◌^◌, ◌==◌, ℕ, Bool, true, false, cond, get_or, List, [], ◌∷◌, refl, sym, ap, ◌∙◌, subst}
use Rattle.std.specs.Prelude.{IsUtf8}
use Rattle.std.specs.Global.{Vec}
use Rattle.ild_data.proofs.AllOf.{all_filter}
use Rattle.ild_data.specs.Data.{Data}
use Rattle.ild_data.specs.declared.hamt_shape.HamtShape.{HamtShape}
use Rattle.ild_data.specs.TrieShape.{index}
use Rattle.ild_data.specs.Trie.{part, at_depth}
use Rattle.ild_hamt_trie.proofs.Parts.{in_order-part}
use Rattle.ild_typed.specs.Nested.{TreeIn}
use Rattle.ild_node.specs.Hashed.{AreHashed}
use Rattle.ild_node.specs.Rows.{AreRows, deepest_value}
use Rattle.ild_node.specs.declared.hashed.HashedEntry.{HashedEntry}
use Rattle.ild_bulk.specs.Keyed.{HasParts, Parted, hashed_index, hashed_part}

-- those of one index
pub hashed-part : (h : List ℕ → List ℕ) (p : HamtShape) (depth : ℕ) (es : List (List ℕ × Data)) (ks : List HashedEntry) (i : ℕ) → AreHashed h es ks → AreHashed h (part (at_depth h p depth) es i) (hashed_part p depth ks i)
hashed-part h p depth [] [] i are = tt
hashed-part h p depth [] (k ∷ ks) i are = absurd are
hashed-part h p depth (e ∷ es) [] i are = absurd are
hashed-part h p depth (e ∷ es) (k ∷ ks) i are =
    by (at_depth h p depth e.0 == i) (hashed_index p depth k == i) (ap (λ s. index p s depth == i) (sym are.0.hash)) (hashed-part h p depth es ks i are.1)
  where
    by : (a b : Bool) → a ≡ b → AreHashed h (part (at_depth h p depth) es i) (hashed_part p depth ks i)
        → AreHashed h (cond a (e ∷ part (at_depth h p depth) es i) (part (at_depth h p depth) es i)) (cond b (k ∷ hashed_part p depth ks i) (hashed_part p depth ks i))
    by true true same rest = (are.0, rest)
    by true false same rest = absurd cc
    by false true same rest = absurd cc
    by false false same rest = rest

hashed_none : (h : List ℕ → List ℕ) (es : List (List ℕ × Data)) → AreHashed h es [] → es ≡ []
hashed_none h [] are = refl
hashed_none h (e ∷ es) are = absurd are

-- an index that no entry has
pub no-part : (h : List ℕ → List ℕ) (p : HamtShape) (depth : ℕ) (es : List (List ℕ × Data)) (ks : List HashedEntry) (i : ℕ) → AreHashed h es ks → hashed_part p depth ks i ≡ [] → part (at_depth h p depth) es i ≡ []
no-part h p depth es ks i are none = hashed_none h (part (at_depth h p depth) es i) (subst (λ (js : List HashedEntry). AreHashed h (part (at_depth h p depth) es i) js) none (hashed-part h p depth es ks i are))

-- the entries in a vector of their part
pub hashed-in : (h : List ℕ → List ℕ) (p : HamtShape) (depth count : ℕ) (es : List (List ℕ × Data)) (ks : List HashedEntry) (parts : List (Vec HashedEntry)) (i : ℕ) (v : Vec HashedEntry) → AreHashed h es ks
    → Parted (hashed_index p depth) count ks parts → i < count → v ≡ get_or parts i v → AreHashed h (part (at_depth h p depth) es i) v.items
hashed-in h p depth count es ks parts i v are parted lt is =
    subst (λ (js : List HashedEntry). AreHashed h (part (at_depth h p depth) es i) js) (sym (ap (λ (w : Vec HashedEntry). w.items) is ∙ parted.each i v lt)) (hashed-part h p depth es ks i are)

-- parts of pieces
pub parted-has : (h : List ℕ → List ℕ) (p : HamtShape) (depth : ℕ) (es : List (List ℕ × Data)) (ks : List HashedEntry) (parts ps : List (Vec HashedEntry)) → AreHashed h es ks → Parted (hashed_index p depth) (2 ^ p.width) ks parts → ps ≡ parts
    → HasParts h p depth es ps
parted-has h p depth es ks parts ps are parted same = record { pieces = ks; are = are; parted = subst (λ (qs : List (Vec HashedEntry)). Parted (hashed_index p depth) (2 ^ p.width) ks qs) (sym same) parted }

-- a part of rows is in order, and what holds of all holds of it
pub rows-part : (at : List ℕ → ℕ) (es : List (List ℕ × Data)) (i : ℕ) → AreRows es → AreRows (part at es i)
rows-part at es i rows = (in_order-part at es i rows.0, all_filter (λ e. IsUtf8 e.0) (λ e. at e.0 == i) es rows.1, all_filter (λ e. TreeIn deepest_value e.1) (λ e. at e.0 == i) es rows.2)
