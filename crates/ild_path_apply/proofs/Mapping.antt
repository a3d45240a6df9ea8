-- Entries that come into a map and go, where the item may be no map.
use Rattle.std.proofs.Common.{◌≡◌, ℕ, List, [], ◌∷◌, ◌++◌, append-nil, Bool, true, false, cond, Some, None, refl, sym, ◌∙◌, ap, subst}
use Rattle.std.specs.Prelude.{Result, is_some}
use Rattle.std.specs.Option.{option_map_or}
use Rattle.std.proofs.lemmas.Option.{same_Some, none-some}
use Rattle.ild_cbor.specs.Nodes.{Finds, HasData}
use Rattle.ild_cbor.specs.Scalar.{kind_of}
use Rattle.ild_cbor.specs.Span.{entry_of, index_of, place_of}
use Rattle.ild_cbor.specs.declared.kind.Kind.TheVariants as K
use Rattle.ild_cbor.specs.declared.node.Node.{Node}
use Rattle.ild_splice_changes.proofs.Maps.{put-replaces}
use Rattle.ild_splice_changes.specs.TreeChange.{altered, change_here, changed, child, insert_entry, key, one, remove_entry, replace, unchanged, with_child}
use Rattle.ild_data.proofs.Lists.{members_of-members_list}
use Rattle.ild_data.proofs.Rising.{rises_list, rises_put}
use Rattle.ild_data.specs.Data as T
use Rattle.ild_data.specs.Data.{Data, members_list, members_of}
use Rattle.ild_data.specs.Key.{Rises, same_text, value_at, without}
use Rattle.ild_data.specs.Tree.{AreEntries, IsTree}
use Rattle.ild_splice.proofs.Placed.{entries_are_at, entry_step}
use Rattle.ild_splice.specs.Splices.{Splices}
use Rattle.ild_splice.specs.declared.error.SpliceErr.{SpliceErr}
use Rattle.ild_path_apply.specs.Applies.{Applies}
use Rattle.ild_path_apply.proofs.Finding.{found_none, found_some}
use Rattle.ild_path_apply.proofs.Keeping.{altered_within}
use Rattle.ild_path_apply.proofs.Within.{makes_same, no_change, same_at}

past_at : {V : Type 0} (k : List ℕ) (m : List ℕ × V) (ms : List (List ℕ × V)) (b : Bool) → cond b (Some m.1) (value_at k ms) ≡ None → (value_at k ms ≡ None → without k ms ≡ ms) → cond b ms (m ∷ without k ms) ≡ m ∷ ms
past_at k m ms true h rest = absurd (none-some m.1 (sym h))
past_at k m ms false h rest = ap (λ ys. m ∷ ys) (rest h)

without_past : {V : Type 0} (k : List ℕ) (ms : List (List ℕ × V)) → value_at k ms ≡ None → without k ms ≡ ms
without_past k [] h = refl
without_past k (m ∷ ms) h = past_at k m ms (same_text k m.0) h (without_past k ms)

pub record IsEntry (d : Data) (k : List ℕ) : Type 0 where
  pub map : kind_of d ≡ K.Map
  pub there : is_some (entry_of d k) ≡ true

entry_in : (d e : Data) (k : List ℕ) → entry_of d k ≡ Some e → IsEntry d k
entry_in T.null e k h = absurd (none-some e h)
entry_in (T.boolean b) e k h = absurd (none-some e h)
entry_in (T.integer n) e k h = absurd (none-some e h)
entry_in (T.text y) e k h = absurd (none-some e h)
entry_in (T.bytes y) e k h = absurd (none-some e h)
entry_in (T.list ds) e k h = absurd (none-some e h)
entry_in (T.map ms) e k h = record { map = refl; there = ap is_some h }
entry_in (T.link y) e k h = absurd (none-some e h)

pub entry_is : (n m : Node) (d : Data) (k : List ℕ) → HasData n d → ((u : Data) → HasData n u → Finds n (place_of u (index_of k u)) (entry_of u k) (Some m)) → IsEntry d k
entry_is n m d k stands finds = let x = found_some n m (place_of d (index_of k d)) (entry_of d k) (finds d stands) in entry_in d x.0 k x.1

pub no_entry_is : (n : Node) (d : Data) (k : List ℕ) → HasData n d → ((u : Data) → HasData n u → Finds n (place_of u (index_of k u)) (entry_of u k) None) → entry_of d k ≡ None
no_entry_is n d k stands finds = found_none n (place_of d (index_of k d)) (entry_of d k) (finds d stands)

no_entry : (d : Data) (k : List ℕ) → entry_of d k ≡ None → change_here (remove_entry k) d ≡ d
no_entry T.null k h = refl
no_entry (T.boolean b) k h = refl
no_entry (T.integer n) k h = refl
no_entry (T.text y) k h = refl
no_entry (T.bytes y) k h = refl
no_entry (T.list ds) k h = refl
no_entry (T.map ms) k h = ap T.map (ap members_of (without_past k (members_list ms) h) ∙ members_of-members_list ms)
no_entry (T.link y) k h = refl

pub no_entry_goes : (n : Node) (k : List ℕ) (r : Result (List ℕ) SpliceErr) → ((u : Data) → HasData n u → Finds n (place_of u (index_of k u)) (entry_of u k) None) → Applies n unchanged r → Applies n (one [] (remove_entry k)) r
no_entry_goes n k r finds s = no_change n (remove_entry k) r s (λ d stands. no_entry d k (no_entry_is n d k stands finds))

-- nothing comes into what is no map
pub not_map : (n : Node) (k : List ℕ) (x : Data) (r : Result (List ℕ) SpliceErr) → Applies n unchanged r → ((d : Data) → HasData n d → kind_of d ≡ K.Map → ⊥) → Applies n (one [] (insert_entry k x)) r
not_map n k x r s never = no_change n (insert_entry k x) r s (λ d stands. by d (never d stands)) where
  by : (d : Data) → (kind_of d ≡ K.Map → ⊥) → change_here (insert_entry k x) d ≡ d
  by T.null h = refl
  by (T.boolean b) h = refl
  by (T.integer m) h = refl
  by (T.text y) h = refl
  by (T.bytes y) h = refl
  by (T.list ds) h = refl
  by (T.map ms) h = absurd (h refl)
  by (T.link y) h = refl

-- an entry that is there is replaced
put_here : (d e x : Data) (k : List ℕ) → IsTree d → child (key k) d ≡ Some e → with_child (key k) x d ≡ change_here (insert_entry k x) d
put_here T.null e x k tree h = absurd (none-some e h)
put_here (T.boolean b) e x k tree h = absurd (none-some e h)
put_here (T.integer n) e x k tree h = absurd (none-some e h)
put_here (T.text y) e x k tree h = absurd (none-some e h)
put_here (T.bytes y) e x k tree h = absurd (none-some e h)
put_here (T.list ds) e x k tree h = absurd (none-some e h)
put_here (T.map ms) e x k tree h =
    let up : Rises (members_list ms) = rises_list (members_list ms) (subst AreEntries (sym (members_of-members_list ms)) tree) in
    ap (λ ys. T.map (members_of ys)) (sym (put-replaces k e x (members_list ms) up (rises_put k x (members_list ms) up) h))
put_here (T.link y) e x k tree h = absurd (none-some e h)

pub entry_again : (n m : Node) (k : List ℕ) (x : Data) (r : Result (List ℕ) SpliceErr) → ((u : Data) → HasData n u → Finds n (place_of u (index_of k u)) (entry_of u k) (Some m)) → Splices m (replace x) r
    → Applies n (one [] (insert_entry k x)) r
entry_again n m k x r finds s = record {
  makes = λ t d q at.
      let f = entries_are_at n m t d q k at (finds d at.stands) in
      let there : child (key k) d ≡ Some f.part = sym (entry_step d k) ∙ f.is in
      let here : altered (change_here (replace x)) (key k ∷ []) d ≡ change_here (insert_entry k x) d =
      ap (λ o. option_map_or (λ e. with_child (key k) x d) o d) there ∙ put_here d f.part x k at.stands.within.tree there in
      makes_same (changed (q ++ key k ∷ []) (replace x) t) (changed (q ++ []) (insert_entry k x) t) r
      (altered_within (change_here (replace x)) q (key k ∷ []) t
      ∙ same_at (altered (change_here (replace x)) (key k ∷ [])) (change_here (insert_entry k x)) q t
      (λ y h. let y_is : y ≡ d = same_Some y d (sym h ∙ at.part) in ap (altered (change_here (replace x)) (key k ∷ [])) y_is ∙ here ∙ sym (ap (change_here (insert_entry k x)) y_is))
      ∙ ap (λ p. changed p (insert_entry k x) t) (sym (append-nil q)))
      (s.makes t f.part (q ++ key k ∷ []) f.at);
}
