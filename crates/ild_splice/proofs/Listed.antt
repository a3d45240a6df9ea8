-- A list with one item more or less, by the pieces of its spelling.
use Rattle.std.proofs.Common.{◌≡◌, ℕ, ◌+◌, ◌-◌, ◌^◌, ◌<◌, ◌≤◌, List, [], ◌++◌, length, take, drop, Some, refl, ap, sym, subst, ◌∙◌, append-nil, append_assoc, length-append, arith}
use Rattle.std.specs.Prelude.{min}
use Rattle.std.proofs.lemmas.List.{drop-drop, take-append-drop, length-take-le, length-drop}
use Rattle.ild_cbor.specs.declared.kind.Kind.TheVariants as K
use Rattle.ild_cbor.specs.declared.node.Node.{Node}
use Rattle.ild_cbor.specs.Nodes.{HasData, AreAround}
use Rattle.ild_cbor.specs.Scalar.{kind_of, count_of}
use Rattle.ild_splice_changes.specs.TreeChange.{insert_item, remove_item, change_here}
use Rattle.ild_splice_changes.proofs.Counts.{items_come_lem, items_go_lem}
use Rattle.ild_data.specs.Data.{Data, null, boolean, integer, text, bytes, list, map, link, Items, items_of, items_list}
use Rattle.ild_data.specs.Spell.{head, spell, spell_items, spell_text}
use Rattle.ild_data.proofs.Lists.{items_of-items_list}
use Rattle.ild_data.proofs.Sizes.{items_count}
use Rattle.ild_splice.specs.Splices.{pair_of}

pub list_if : (d : Data) → kind_of d ≡ K.List → (ds : Items) × (d ≡ list ds)
list_if null e = absurd cc
list_if (boolean b) e = absurd cc
list_if (integer n) e = absurd cc
list_if (text s) e = absurd cc
list_if (bytes s) e = absurd cc
list_if (list ds) e = (ds, refl)
list_if (map ms) e = absurd cc
list_if (link s) e = absurd cc

-- what a call told that cuts a list at some items
abbrev Cuts : Node → ℕ → ℕ → List ℕ → List ℕ → Type 0
Cuts n i m before after = (xs ys zs : List Data) → HasData n (list (items_of (xs ++ (ys ++ zs)))) → length xs ≡ i → length ys ≡ m → AreAround before after xs zs

-- a list in a block has fewer items than any count may say
few : (n : Node) (ds : Items) → HasData n (list ds) → length (items_list ds) + 1 < 2 ^ 64
few n ds stands =
    let within = stands.within in
    let sized = within.sized in
    let both = length-append (head 4 (length (items_list ds))) (spell_items ds) in
    let some = items_count ds in
    omega arith

comes_in : (n : Node) (ds : Items) (i count : ℕ) (before after new : List ℕ) (e : Data) → HasData n (list ds) → i ≤ length (items_list ds) → count ≡ min (length (items_list ds) + 1) (2 ^ 64 - 1)
    → Cuts n i 0 before after → new ≡ spell e → head 4 count ++ (before ++ (new ++ after)) ≡ spell (change_here (insert_item i e) (list ds))
comes_in n ds i count before after new e stands le counted cuts is =
    let l = items_list ds in
    let whole : items_of (take i l ++ drop i l) ≡ ds = ap items_of (take-append-drop i l) ∙ items_of-items_list ds in
    let a = cuts (take i l) [] (drop i l) (subst (λ (es : Items). HasData n (list es)) (sym whole) stands) (length-take-le i l le) refl in
    let short = few n ds stands in
    let more : count ≡ length l + 1 = omega arith in
    (λ j. head 4 (more j) ++ (a.front_is j ++ (is j ++ a.back_is j))) ∙ sym (items_come_lem ds i e le)

goes_in : (n : Node) (ds : Items) (i count : ℕ) (before after : List ℕ) → HasData n (list ds) → i < length (items_list ds) → count ≡ length (items_list ds) - 1
    → Cuts n i 1 before after → head 4 count ++ (before ++ after) ≡ spell (change_here (remove_item i) (list ds))
goes_in n ds i count before after stands lt counted cuts =
    let l = items_list ds in
    let long = length-drop i l in
    let parts : take i l ++ (take 1 (drop i l) ++ drop 1 (drop i l)) ≡ l = ap (λ (xs : List Data). take i l ++ xs) (take-append-drop 1 (drop i l)) ∙ take-append-drop i l in
    let whole : items_of (take i l ++ (take 1 (drop i l) ++ drop 1 (drop i l))) ≡ ds = ap items_of parts ∙ items_of-items_list ds in
    let a = cuts (take i l) (take 1 (drop i l)) (drop 1 (drop i l)) (subst (λ (es : Items). HasData n (list es)) (sym whole) stands) (length-take-le i l (omega arith)) (length-take-le 1 (drop i l) (omega arith)) in
    let back : after ≡ spell_items (items_of (drop (i + 1) l)) = a.back_is ∙ ap (λ (xs : List Data). spell_items (items_of xs)) (drop-drop 1 i l) in
    (λ j. head 4 (counted j) ++ (a.front_is j ++ back j)) ∙ sym (items_go_lem ds i lt)

-- with a count of the items, as one was told
pub comes : (n : Node) (d e : Data) (i told count : ℕ) (before after new : List ℕ) → HasData n d → kind_of d ≡ K.List → ((k : ℕ) → count_of d ≡ Some k → i ≤ k) → ((k : ℕ) → count_of d ≡ Some k → told ≡ k)
    → count ≡ min (told + 1) (2 ^ 64 - 1) → Cuts n i 0 before after → new ≡ spell e → head 4 count ++ (before ++ (new ++ after)) ≡ spell (change_here (insert_item i e) d)
comes n d e i told count before after new stands kind place tells counted cuts is =
    let l = list_if d kind in
    let P : Data → Type 0 = λ u. HasData n u → ((k : ℕ) → count_of u ≡ Some k → i ≤ k) → ((k : ℕ) → count_of u ≡ Some k → told ≡ k) → head 4 count ++ (before ++ (new ++ after)) ≡ spell (change_here (insert_item i e) u) in
    subst P (sym l.1) (λ s p t. comes_in n l.0 i count before after new e s (p _ refl) (counted ∙ ap (λ k. min (k + 1) (2 ^ 64 - 1)) (t _ refl)) cuts is) stands place tells

-- the new item spelled in two parts
pub comes_led : (n : Node) (d e u : Data) (i told count : ℕ) (before after lead new : List ℕ) → HasData n d → kind_of d ≡ K.List → ((k : ℕ) → count_of d ≡ Some k → i ≤ k) → ((k : ℕ) → count_of d ≡ Some k → told ≡ k)
    → count ≡ min (told + 1) (2 ^ 64 - 1) → Cuts n i 0 before after → new ≡ spell e → lead ++ spell e ≡ spell u → head 4 count ++ (before ++ (lead ++ (new ++ after))) ≡ spell (change_here (insert_item i u) d)
comes_led n d e u i told count before after lead new stands kind place tells counted cuts is both =
    ap (λ (xs : List ℕ). head 4 count ++ (before ++ xs)) (sym (append_assoc lead new after))
    ∙ comes n d u i told count before after (lead ++ new) stands kind place tells counted cuts (ap (λ (xs : List ℕ). lead ++ xs) is ∙ both)

pub pair_spelled : (k : List ℕ) (e : Data) → (head 4 2 ++ spell_text k) ++ spell e ≡ spell (pair_of k e)
pair_spelled k e = append_assoc (head 4 2) (spell_text k) (spell e) ∙ ap (λ (xs : List ℕ). head 4 2 ++ (spell_text k ++ xs)) (sym (append-nil (spell e)))

pub goes : (n : Node) (d : Data) (i told count : ℕ) (before after : List ℕ) → HasData n d → kind_of d ≡ K.List → ((k : ℕ) → count_of d ≡ Some k → i < k) → ((k : ℕ) → count_of d ≡ Some k → told ≡ k)
    → count ≡ told - 1 → Cuts n i 1 before after → head 4 count ++ (before ++ after) ≡ spell (change_here (remove_item i) d)
goes n d i told count before after stands kind place tells counted cuts =
    let l = list_if d kind in
    let P : Data → Type 0 = λ u. HasData n u → ((k : ℕ) → count_of u ≡ Some k → i < k) → ((k : ℕ) → count_of u ≡ Some k → told ≡ k) → head 4 count ++ (before ++ after) ≡ spell (change_here (remove_item i) u) in
    subst P (sym l.1) (λ s p t. goes_in n l.0 i count before after s (p _ refl) (counted ∙ ap (λ k. k - 1) (t _ refl)) cuts) stands place tells
