-- Entries of which one key's alone differs: their parts, and the slots of their nodes.
use Rattle.std.proofs.Common.{◌≡◌, ◌≢◌, ℕ, zero, suc, ◌+◌, Bool, true, false, cond, not, ◌==◌, List, set, Some, None, option_map, refl, sym, ap, ◌∙◌}
use Rattle.std.specs.Ordering.{eq_by_cmp}
use Rattle.std.specs.FinMap.{find, put}
use Rattle.std.proofs.lemmas.Bool.{eqb-true}
use Rattle.ild_data.specs.Data.{Data}
use Rattle.ild_data.specs.declared.hamt_shape.HamtShape.{HamtShape}
use Rattle.ild_data.specs.ByteOrder.{bytewise, without, IsInOrder}
use Rattle.ild_data.specs.Trie.{TrieSlot, part, slot_of, node_of, at_depth, slots_at}
use Rattle.ild_hamt_trie.specs.Way.{along}
use Rattle.ild_hamt_trie.proofs.Index.{index_below}
use Rattle.ild_hamt_trie.proofs.Parts.{same_by_find, same_key, in_order-part, in_order-put, in_order-without, find-part, find-put_at, find-without, part-without_same}
use Rattle.ild_hamt_trie.proofs.Slots.{slots-changed}
use Rattle.ild_hamt_climb.specs.Rewriting.{DiffersAt}

pub other-key : (q k : List ℕ) (b : Bool) → eq_by_cmp bytewise q k ≡ b → q ≢ k → b ≡ false
other-key q k true is apart = absurd (apart (same_key q k is))
other-key q k false is apart = refl

pub differs-put : (k : List ℕ) (v : Data) (es : List (List ℕ × Data)) → IsInOrder es → DiffersAt k es (put bytewise k v es)
differs-put k v es order = record {
  was = order;
  now = in_order-put k v es order;
  others = λ q apart. find-put_at q k v es ∙ ap (λ b. cond b (Some v) (find bytewise q es)) (other-key q k (eq_by_cmp bytewise q k) refl apart);
}

pub differs-without : (k : List ℕ) (es : List (List ℕ × Data)) → IsInOrder es → DiffersAt k es (without k es)
differs-without k es order = record {
  was = order;
  now = in_order-without k es order;
  others = λ q apart. find-without k es q ∙ ap (λ b. cond (not b) (find bytewise q es) None) (other-key k q (eq_by_cmp bytewise k q) refl (λ e. apart (sym e)));
}

pub part-differs : (at : List ℕ → ℕ) (k : List ℕ) (i : ℕ) (es fs : List (List ℕ × Data)) → DiffersAt k es fs → DiffersAt k (part at es i) (part at fs i)
part-differs at k i es fs d = record {
  was = in_order-part at es i d.was;
  now = in_order-part at fs i d.now;
  others = λ q apart. find-part at fs i q ∙ ap (λ o. cond (at q == i) o None) (d.others q apart) ∙ sym (find-part at es i q);
}

-- the parts at other indices are the same
pub part-others : (at : List ℕ → ℕ) (k : List ℕ) (i : ℕ) (es fs : List (List ℕ × Data)) → DiffersAt k es fs → at k ≢ i → part at fs i ≡ part at es i
part-others at k i es fs d apart =
    same_by_find _ _ (in_order-part at fs i d.now) (in_order-part at es i d.was)
    (λ q. find-part at fs i q ∙ by q (at q == i) refl ∙ sym (find-part at es i q))
  where
    by : (q : List ℕ) (b : Bool) → (at q == i) ≡ b → cond b (find bytewise q fs) None ≡ cond b (find bytewise q es) None
    by q true is = d.others q (λ same. apart (ap at (sym same) ∙ eqb-true (at q) i is))
    by q false is = refl

pub along-differs : (h : List ℕ → List ℕ) (p : HamtShape) (k : List ℕ) (n depth : ℕ) (es fs : List (List ℕ × Data)) → DiffersAt k es fs → DiffersAt k (along h p k n depth es) (along h p k n depth fs)
along-differs h p k zero depth es fs d = d
along-differs h p k (suc n) depth es fs d = along-differs h p k n (depth + 1) _ _ (part-differs (at_depth h p depth) k (at_depth h p depth k) es fs d)

-- the slots of the node change at the key's index alone
pub slots-differ : (h : List ℕ → List ℕ) (p : HamtShape) (k : List ℕ) (left depth : ℕ) (es fs : List (List ℕ × Data)) (slots : List TrieSlot) (s : TrieSlot)
    → DiffersAt k es fs → slots_at h p left depth es ≡ Some slots → slot_of p.bucket (node_of h p left (depth + 1)) (part (at_depth h p depth) fs (at_depth h p depth k)) ≡ Some s
    → slots_at h p left depth fs ≡ Some (set slots (at_depth h p depth k) s)
slots-differ h p k left depth es fs slots s d is new =
    slots-changed p (at_depth h p depth) (node_of h p left (depth + 1)) es fs (at_depth h p depth k) slots (index_below p (h k) depth)
    (λ j apart. part-others (at_depth h p depth) k j es fs d (λ e. apart (sym e))) is
    ∙ ap (option_map (λ t. set slots (at_depth h p depth k) t)) new

pub along-without : (h : List ℕ → List ℕ) (p : HamtShape) (k : List ℕ) (n depth : ℕ) (es : List (List ℕ × Data)) → IsInOrder es → along h p k n depth (without k es) ≡ without k (along h p k n depth es)
along-without h p k zero depth es order = refl
along-without h p k (suc n) depth es order =
    ap (along h p k n (depth + 1)) (part-without_same (at_depth h p depth) k es (at_depth h p depth k) order)
    ∙ along-without h p k n (depth + 1) (part (at_depth h p depth) es (at_depth h p depth k)) (in_order-part (at_depth h p depth) es (at_depth h p depth k) order)
