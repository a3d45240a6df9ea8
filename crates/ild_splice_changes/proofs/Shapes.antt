-- The change of one part of a map or a list.
use Rattle.std.proofs.Common.{◌≡◌, ◌≢◌, ℕ, suc, List, [], ◌∷◌, ◌++◌, length, drop, insert, slice_get, Some, None, refl, ap, sym, subst, ◌∙◌}
use Rattle.std.specs.Prelude.{remove, slice_set}
use Rattle.std.specs.Option.{option_map_or}
use Rattle.std.proofs.lemmas.List.{set_at, take_at, drop_at}
use Rattle.ild_data.specs.Data as D
use Rattle.ild_data.specs.Data.{Data, items_of, members_of}
use Rattle.ild_data.specs.Key.{put, value_at, without, Rises}
use Rattle.ild_data.proofs.Lists.{items_list-items_of, members_list-members_of}
use Rattle.ild_data.proofs.Rising.{rises_put, rises_without}
use Rattle.ild_splice_changes.specs.TreeChange.{TreeStep, nth, key, TreeChange, replace, insert_item, remove_item, child, with_child, altered, change_here, changed, replaced_at}
use Rattle.ild_splice_changes.specs.Differences.{OneKey, OneItem}
use Rattle.ild_splice_changes.proofs.Maps.{put-there, put-other, without-gone, without-other, replaced-there, replaced-other, rises_replaced, same_entries, by_key}

abbrev pub map_data : List (List ℕ × Data) → Data
map_data ms = D.map (members_of ms)

abbrev pub list_data : List Data → Data
list_data ds = D.list (items_of ds)

-- what is the same at a key and at all others is the same
same_by : (k : List ℕ) (xs ys zs : List (List ℕ × Data)) → Rises ys → Rises zs → value_at k ys ≡ value_at k zs → ((j : List ℕ) → k ≢ j → value_at j ys ≡ value_at j zs) → ys ≡ zs
same_by k xs ys zs up vp here others = same_entries ys zs up vp (λ j. by_key k j (λ p. subst (λ i. value_at i ys ≡ value_at i zs) p here) (λ a. others j a))

pub map_replaced : (k : List ℕ) (xs : List (List ℕ × Data)) (e d : Data) → value_at k xs ≡ Some e → changed (key k ∷ []) (replace d) (map_data xs) ≡ map_data (replaced_at k d xs)
map_replaced k xs e d h =
    let g : child (key k) (map_data xs) ≡ Some e = ap (value_at k) (members_list-members_of xs) ∙ h in
    ap (λ o. option_map_or (λ x. with_child (key k) (altered (change_here (replace d)) [] x) (map_data xs)) o (map_data xs)) g
    ∙ ap (λ ms. map_data (replaced_at k d ms)) (members_list-members_of xs)

pub one_key : OneKey
one_key k xs ys None None up vp others here there = ap map_data (same_by k xs ys xs vp up (there ∙ sym here) others)
one_key k xs ys None (Some d) up vp others here there =
    ap map_data (same_by k xs ys (put k d xs) vp (rises_put k d xs up) (there ∙ sym (put-there k d xs)) (λ j a. others j a ∙ sym (put-other k j d xs a)))
    ∙ ap (λ ms. map_data (put k d ms)) (sym (members_list-members_of xs))
one_key k xs ys (Some e) None up vp others here there =
    ap map_data (same_by k xs ys (without k xs) vp (rises_without k xs up) (there ∙ sym (without-gone k xs up)) (λ j a. others j a ∙ sym (without-other k j xs a)))
    ∙ ap (λ ms. map_data (without k ms)) (sym (members_list-members_of xs))
one_key k xs ys (Some e) (Some d) up vp others here there =
    ap map_data (same_by k xs ys (replaced_at k d xs) vp (rises_replaced k d xs up) (there ∙ sym (replaced-there k e d xs here)) (λ j a. others j a ∙ sym (replaced-other k j d xs a)))
    ∙ sym (map_replaced k xs e d here)

-- items
pub get_at : {X : Type 0} (front behind : List X) (x : X) → slice_get (front ++ x ∷ behind) (length front) ≡ Some x
get_at [] behind x = refl
get_at (y ∷ ys) behind x = get_at ys behind x

drop_behind : {X : Type 0} (front behind : List X) (x : X) → drop (suc (length front)) (front ++ x ∷ behind) ≡ behind
drop_behind [] behind x = refl
drop_behind (y ∷ ys) behind x = drop_behind ys behind x

pub list_replaced : (q : List TreeStep) (c : TreeChange) (xs : List Data) (i : ℕ) (e : Data) → slice_get xs i ≡ Some e → changed (nth i ∷ q) c (list_data xs) ≡ list_data (slice_set xs i (changed q c e))
list_replaced q c xs i e h =
    let g : child (nth i) (list_data xs) ≡ Some e = ap (λ ys. slice_get ys i) (items_list-items_of xs) ∙ h in
    ap (λ o. option_map_or (λ x. with_child (nth i) (altered (change_here c) q x) (list_data xs)) o (list_data xs)) g
    ∙ ap (λ ys. list_data (slice_set ys i (changed q c e))) (items_list-items_of xs)

pub inserted : (front behind : List Data) (d : Data) → list_data (front ++ d ∷ behind) ≡ changed [] (insert_item (length front) d) (list_data (front ++ behind))
inserted front behind d =
    (λ i. list_data (sym (take_at front behind (length front) refl) i ++ d ∷ sym (drop_at front behind (length front) refl) i))
    ∙ ap (λ xs. list_data (insert xs (length front) d)) (sym (items_list-items_of (front ++ behind)))

pub removed : (front behind : List Data) (e : Data) → list_data (front ++ behind) ≡ changed [] (remove_item (length front)) (list_data (front ++ e ∷ behind))
removed front behind e =
    (λ i. list_data (sym (take_at front (e ∷ behind) (length front) refl) i ++ sym (drop_behind front behind e) i))
    ∙ ap (λ xs. list_data (remove xs (length front))) (sym (items_list-items_of (front ++ e ∷ behind)))

pub replaced : (front behind : List Data) (e : Data) (q : List TreeStep) (c : TreeChange) → list_data (front ++ changed q c e ∷ behind) ≡ changed (nth (length front) ∷ q) c (list_data (front ++ e ∷ behind))
replaced front behind e q c =
    ap list_data (sym (set_at front e behind (changed q c e) (length front) refl)) ∙ sym (list_replaced q c (front ++ e ∷ behind) (length front) e (get_at front behind e))

pub one_item : OneItem
one_item front behind None None = refl
one_item front behind None (Some d) = inserted front behind d
one_item front behind (Some e) None = removed front behind e
one_item front behind (Some e) (Some d) = replaced front behind e [] (replace d)
