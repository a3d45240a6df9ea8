-- The entries of a trie that is held are such as blocks hold.
use Rattle.std.proofs.Common.{◌≡◌, ⊎_elim, ℕ, zero, suc, ◌+◌, ◌<◌, ◌^◌, ◌==◌, Bool, true, false, cond, List, [], ◌∷◌, length, get_or, Some, None, refl, sym, ◌∙◌, subst, arith}
use Rattle.std.specs.Prelude.{IsUtf8, reverse}
use Rattle.std.specs.List.{AllByRecursion}
use Rattle.std.proofs.lemmas.Bool.{eq-eqb, cases_lt, leb-false, or_parts}
use Rattle.std.proofs.lemmas.List.{reverse-append}
use Rattle.ild_data.proofs.AllOf.{all_split}
use Rattle.ild_data.specs.declared.hamt_shape.HamtShape.{HamtShape}
use Rattle.ild_data.specs.Data.{Data}
use Rattle.ild_data.specs.Limits.{IsWithin, longest_block}
use Rattle.ild_data.specs.Trie.{TrieSlot, empty, bucket, child, bucket_entries, node_data, part, node_of, at_depth, slots_at}
use Rattle.ild_hamt_trie.proofs.Fold.{slot-many}
use Rattle.ild_hamt_trie.proofs.Index.{index_below}
use Rattle.ild_hamt_trie.proofs.Node.{slots-node, no_node}
use Rattle.ild_hamt_trie.proofs.Slots.{slot_at}
use Rattle.ild_typed.specs.Node.{IsSlot}
use Rattle.ild_typed.proofs.Treed.{EntryIn}
use Rattle.ild_node.specs.Rows.{AreShallow}
use Rattle.ild_bulk.specs.Build.{any_long, is_long}
use Rattle.ild_edges.specs.Gained.{AreHeld}
use Rattle.ild_bulk_walker.specs.Trees.{HoldsBelow, IsHeldNode}
use Rattle.ild_hamt.proofs.Holding.{linked}
use Rattle.ild_hamt.proofs.Leading.{held-node}
use Rattle.ild_hamt_climb.proofs.Nested.{shallow-slot}
use Rattle.ild_hamt.proofs.Sound.{IsShortHeld}
use Rattle.ild_hamt_climb.proofs.Weights.{few-held}

-- ---- all entries, part by part

first-part : (P : List ℕ × Data → Type 0) (b : Bool) (e : List ℕ × Data) (xs : List (List ℕ × Data)) → b ≡ true → AllByRecursion P (cond b (e ∷ xs) xs) → P e
first-part P true e xs is all = all.0
first-part P false e xs is all = absurd cc

rest-part : (P : List ℕ × Data → Type 0) (b : Bool) (e : List ℕ × Data) (xs : List (List ℕ × Data)) → AllByRecursion P (cond b (e ∷ xs) xs) → AllByRecursion P xs
rest-part P true e xs all = all.1
rest-part P false e xs all = all

all-parts : (P : List ℕ × Data → Type 0) (at : List ℕ → ℕ) (n : ℕ) (es : List (List ℕ × Data)) → ((q : List ℕ) → at q < n) → ((i : ℕ) → i < n → AllByRecursion P (part at es i)) → AllByRecursion P es
all-parts P at n [] within each = tt
all-parts P at n (e ∷ es) within each = (
  first-part P (at e.0 == at e.0) e (part at es (at e.0)) (eq-eqb (at e.0) (at e.0) refl) (each (at e.0) (within e.0)),
  all-parts P at n es within (λ i lt. rest-part P (at e.0 == i) e (part at es i) (each i lt)),
)

all-get : (p : HamtShape) (slots : List TrieSlot) (i : ℕ) → AllByRecursion (IsSlot p) slots → IsSlot p (get_or slots i empty)
all-get p [] i all = tt
all-get p (s ∷ slots) zero all = all.0
all-get p (s ∷ slots) (suc i) all = all-get p slots i all.1

entries-join : (es : List (List ℕ × Data)) → AllByRecursion (λ e. IsUtf8 e.0) es → AreShallow es → AllByRecursion (EntryIn 92) es
entries-join [] texts values = tt
entries-join (e ∷ es) texts values = ((texts.0, values.0), entries-join es texts.1 values.1)

slot-entries : (p : HamtShape) (slots : List TrieSlot) (i : ℕ) (z : TrieSlot) → get_or slots i empty ≡ z → IsWithin (node_data slots) → IsSlot p z → AllByRecursion (EntryIn 92) (bucket_entries z)
slot-entries p slots i empty is w form = tt
slot-entries p slots i (bucket es) is w form = entries-join es form.3 (shallow-slot slots i es w is)
slot-entries p slots i (child id) is w form = tt

pub entries-sound : (p : HamtShape) (h : List ℕ → List ℕ) (held : List (List ℕ)) (left depth : ℕ) (es : List (List ℕ × Data)) (slots : List TrieSlot) → slots_at h p left depth es ≡ Some slots → IsWithin (node_data slots)
    → AllByRecursion (IsSlot p) slots → HoldsBelow h p held (suc left) depth es → AllByRecursion (EntryIn 92) es
entries-sound p h held zero depth es slots is w form below =
    all-parts (EntryIn 92) (at_depth h p depth) (2 ^ p.width) es (λ q. index_below p (h q) depth)
    (λ i lt.
    let there = slot_at p (at_depth h p depth) (node_of h p zero (depth + 1)) es i slots empty lt is in
    ⊎_elim
    (λ many. absurd (let node = linked _ (get_or slots i empty) (sym (slot-many p.bucket (node_of h p zero (depth + 1)) (part (at_depth h p depth) es i) many) ∙ there) in
    let none : None ≡ Some node.0 = sym (no_node h p (depth + 1) (part (at_depth h p depth) es i)) ∙ node.1 in cc))
    (λ few. subst (λ (gs : List (List ℕ × Data)). AllByRecursion (EntryIn 92) gs) (few-held p.bucket (node_of h p zero (depth + 1)) (part (at_depth h p depth) es i) (get_or slots i empty) there few)
    (slot-entries p slots i (get_or slots i empty) refl w (all-get p slots i form)))
    (cases_lt p.bucket (length (part (at_depth h p depth) es i))))
entries-sound p h held (suc left) depth es slots is w form below =
    all-parts (EntryIn 92) (at_depth h p depth) (2 ^ p.width) es (λ q. index_below p (h q) depth)
    (λ i lt.
    let fs : List (List ℕ × Data) = part (at_depth h p depth) es i in
    let there = slot_at p (at_depth h p depth) (node_of h p (suc left) (depth + 1)) es i slots empty lt is in
    ⊎_elim
    (λ many.
    let node = linked _ (get_or slots i empty) (sym (slot-many p.bucket (node_of h p (suc left) (depth + 1)) fs many) ∙ there) in
    let ss = slots-node h p left (depth + 1) fs node.0 node.1 in
    let beneath = below i node.0 many node.1 in
    let own = held-node h p held left (depth + 1) fs ss.0 p.wide ss.1 (subst (λ (d : Data). IsHeldNode p held d) ss.2 beneath.0) in
    entries-sound p h held left (depth + 1) fs ss.0 ss.1 own.is.within own.form.each beneath.1)
    (λ few. subst (λ (gs : List (List ℕ × Data)). AllByRecursion (EntryIn 92) gs) (few-held p.bucket (node_of h p (suc left) (depth + 1)) fs (get_or slots i empty) there few)
    (slot-entries p slots i (get_or slots i empty) refl w (all-get p slots i form)))
    (cases_lt p.bucket (length fs)))

-- ---- blocks that are short and held

short-held : (bs now : List (List ℕ)) → any_long bs ≡ false → AreHeld bs now → AllByRecursion (IsShortHeld now) bs
short-held [] now short held = tt
short-held (b ∷ bs) now short held =
    let parts = or_parts (is_long b) (any_long bs) short in
    ((let le = leb-false (suc longest_block) (length b) parts.0 in omega arith, held.0), short-held bs now parts.1 held.1)

all-turned : {X : Type 0} (P : X → Type 0) (xs : List X) → AllByRecursion P (reverse xs) → AllByRecursion P xs
all-turned P [] all = tt
all-turned {X = X} P (x ∷ xs) all =
    let parts = all_split P (reverse xs) (x ∷ []) (subst (λ (ys : List X). AllByRecursion P ys) (reverse-append (x ∷ []) xs) all) in
    (parts.1.0, all-turned P xs parts.0)

pub way-short : (ws now : List (List ℕ)) (root : List ℕ) → any_long (root ∷ reverse ws) ≡ false → AreHeld (reverse ws) now → AllByRecursion (IsShortHeld now) ws
way-short ws now root short held = all-turned (IsShortHeld now) ws (short-held (reverse ws) now (or_parts (is_long root) (any_long (reverse ws)) short).1 held)
