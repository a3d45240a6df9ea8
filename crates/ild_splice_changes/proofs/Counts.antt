-- What comes and goes in a list or a map: the spelling at its place, and the count in the head.
use Rattle.std.proofs.Common.{cond, ◌≡◌, ℕ, suc, add-one, ◌+◌, ◌-◌, List, [], ◌∷◌, ◌++◌, length, take, drop, insert, Bool, true, false, Some, None, refl, ap, sym, ◌∙◌, append_assoc, length-append, arith}
use Rattle.std.specs.Prelude.{remove}
use Rattle.std.specs.Ordering.{match_ordering}
use Rattle.std.specs.Cmp.Lexicographic.{same_text as text_same}
use Rattle.std.specs.declared.cmp.Ordering.{Ordering}
use Rattle.std.specs.declared.cmp.Ordering.TheVariants.{Less, Equal, Greater}
use Rattle.std.proofs.lemmas.Option.{same_Some, none-some}
use Rattle.std.proofs.lemmas.List.Edits.{length-insert, length-remove}
use Rattle.ild_data.specs.Data.{Data, list, map, items_of, items_list, members_of, members_list}
use Rattle.ild_data.specs.Key.{key_cmp, same_text, put, value_at, without}
use Rattle.ild_data.specs.Spell.{head, spell, spell_text}
use Rattle.ild_data.proofs.Lists.{items_list-items_of, members_list-members_of, members_of-members_list}
use Rattle.ild_data.proofs.Rising.{agrees}
use Rattle.ild_splice_changes.specs.Laws.{ItemsCome, ItemsGo, EntriesCome, EntriesGo, spell_list, spell_pairs, Splits, EntrySpans}

spell_list-append : (xs ys : List Data) → spell_list (xs ++ ys) ≡ spell_list xs ++ spell_list ys
spell_list-append [] ys = refl
spell_list-append (x ∷ xs) ys = ap (λ z. spell x ++ z) (spell_list-append xs ys) ∙ sym (append_assoc (spell x) (spell_list xs) (spell_list ys))

pub spell_pairs-append : (xs ys : List (List ℕ × Data)) → spell_pairs (xs ++ ys) ≡ spell_pairs xs ++ spell_pairs ys
spell_pairs-append [] ys = refl
spell_pairs-append (x ∷ xs) ys =
    ap (λ z. (spell_text x.0 ++ spell x.1) ++ z) (spell_pairs-append xs ys) ∙ sym (append_assoc (spell_text x.0 ++ spell x.1) (spell_pairs xs) (spell_pairs ys))

spelled_list : (ds : List Data) (n : ℕ) (x : List ℕ) → length ds ≡ n → spell_list ds ≡ x → spell (list (items_of ds)) ≡ head 4 n ++ x
spelled_list ds n x count is = ap (λ k. head 4 k ++ spell_list ds) (ap length (items_list-items_of ds) ∙ count) ∙ ap (λ y. head 4 n ++ y) is

spelled_map : (ms : List (List ℕ × Data)) (n : ℕ) (x : List ℕ) → length ms ≡ n → spell_pairs ms ≡ x → spell (map (members_of ms)) ≡ head 5 n ++ x
spelled_map ms n x count is = ap (λ k. head 5 k ++ spell_pairs ms) (ap length (members_list-members_of ms) ∙ count) ∙ ap (λ y. head 5 n ++ y) is

pub items_come_lem : ItemsCome
items_come_lem ds i e le =
    let xs = items_list ds in
    spelled_list (insert xs i e) (length xs + 1) _ (length-insert xs i e le) (spell_list-append (take i xs) (e ∷ drop i xs))

pub items_go_lem : ItemsGo
items_go_lem ds i lt =
    let xs = items_list ds in
    spelled_list (remove xs i) (length xs - 1) _ (omega (arith, length-remove xs i lt)) (spell_list-append (take i xs) (drop (suc i) xs) ∙ rw add-one refl)

-- with the entry between the others, and without it
spanned : (with without : List (List ℕ × Data)) (n : ℕ) (k : List ℕ) (d : Data) → length without ≡ n → Splits with without k d → EntrySpans (map (members_of with)) (map (members_of without)) n k d
spanned with without n k d count s = record {
  front = spell_pairs s.front;
  behind = spell_pairs s.behind;
  here = spelled_map with (n + 1) _ more (ap spell_pairs s.here ∙ spell_pairs-append s.front ((k, d) ∷ s.behind) ∙ ap (λ z. spell_pairs s.front ++ z) (append_assoc (spell_text k) (spell d) (spell_pairs s.behind)));
  gone = spelled_map without n _ count (ap spell_pairs s.gone ∙ spell_pairs-append s.front s.behind);
}
  where
    more : length with ≡ n + 1
    more =
        let a = ap length s.here ∙ length-append s.front ((k, d) ∷ s.behind) in
        let b = ap length s.gone ∙ length-append s.front s.behind in
        omega arith

later : (m : List ℕ × Data) (with without : List (List ℕ × Data)) (k : List ℕ) (d : Data) → Splits with without k d → Splits (m ∷ with) (m ∷ without) k d
later m with without k d s = record { front = m ∷ s.front; behind = s.behind; here = ap (λ x. m ∷ x) s.here; gone = ap (λ x. m ∷ x) s.gone }

put_splits_at : (k : List ℕ) (d : Data) (m : List ℕ × Data) (ms : List (List ℕ × Data)) (o : Ordering) → key_cmp k m.0 ≡ o
    → cond (same_text k m.0) (Some m.1) (value_at k ms) ≡ None → (value_at k ms ≡ None → Splits (put k d ms) ms k d)
    → Splits (match_ordering o ((k, d) ∷ m ∷ ms) ((k, d) ∷ ms) (m ∷ put k d ms)) (m ∷ ms) k d
put_splits_at k d m ms Less is none rest = record { front = []; behind = m ∷ ms; here = refl; gone = refl }
put_splits_at k d m ms Equal is none rest = absurd (none-some m.1 (sym none ∙ ap (λ b. cond b (Some m.1) (value_at k ms)) (agrees k m.0 (same_text k m.0) refl is)))
put_splits_at k d m ms Greater is none rest = later m (put k d ms) ms k d (rest (missing (same_text k m.0) none))
  where
    missing : (b : Bool) → cond b (Some m.1) (value_at k ms) ≡ None → value_at k ms ≡ None
    missing true e = absurd (none-some m.1 (sym e))
    missing false e = e

put_splits : (k : List ℕ) (d : Data) (ms : List (List ℕ × Data)) → value_at k ms ≡ None → Splits (put k d ms) ms k d
put_splits k d [] none = record { front = []; behind = []; here = refl; gone = refl }
put_splits k d (m ∷ ms) none = put_splits_at k d m ms (key_cmp k m.0) refl none (λ e. put_splits k d ms e)

pub entries_come_lem : EntriesCome
entries_come_lem ms k d none =
    let a = spanned (put k d (members_list ms)) (members_list ms) (length (members_list ms)) k d refl (put_splits k d (members_list ms) none) in
    rw members_of-members_list at a

out_splits_at : (k : List ℕ) (d : Data) (m : List ℕ × Data) (ms : List (List ℕ × Data)) (b : Bool) → b ≡ same_text k m.0
    → cond b (Some m.1) (value_at k ms) ≡ Some d → (value_at k ms ≡ Some d → Splits ms (without k ms) k d)
    → Splits (m ∷ ms) (cond b ms (m ∷ without k ms)) k d
out_splits_at k d m ms true is some rest =
    record { front = []; behind = ms; here = λ i. (sym (text_same k m.0 is) i, same_Some m.1 d some i) ∷ ms; gone = refl }
out_splits_at k d m ms false is some rest = later m ms (without k ms) k d (rest some)

out_splits : (k : List ℕ) (d : Data) (ms : List (List ℕ × Data)) → value_at k ms ≡ Some d → Splits ms (without k ms) k d
out_splits k d [] some = absurd (none-some d some)
out_splits k d (m ∷ ms) some = out_splits_at k d m ms (same_text k m.0) refl some (λ e. out_splits k d ms e)

one_less : (with without : List (List ℕ × Data)) (k : List ℕ) (d : Data) → Splits with without k d → length without ≡ length with - 1
one_less with without k d s =
    let a = ap length s.here ∙ length-append s.front ((k, d) ∷ s.behind) in
    let b = ap length s.gone ∙ length-append s.front s.behind in
    omega arith

pub entries_go_lem : EntriesGo
entries_go_lem ms k d some =
    let s = out_splits k d (members_list ms) some in
    let a = spanned (members_list ms) (without k (members_list ms)) (length (members_list ms) - 1) k d (one_less (members_list ms) (without k (members_list ms)) k d s) s in
    rw members_of-members_list at a
