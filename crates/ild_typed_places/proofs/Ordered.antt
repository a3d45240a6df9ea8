-- Entries in bytewise order are the entries, where no key stands twice; and so are those of all parts of a node.
use Rattle.std.proofs.Common.{◌≡◌, ℕ, ◌<◌, ◌==◌, Bool, true, false, cond, not, is_some, List, [], ◌∷◌, Some, None, refl, sym, ◌∙◌, subst}
use Rattle.std.specs.List.{AllByRecursion}
use Rattle.std.specs.FinMap.{find, put}
use Rattle.std.specs.Ordering.{is_eq, match_ordering}
use Rattle.std.specs.declared.cmp.Ordering.{Ordering}
use Rattle.std.specs.declared.cmp.Ordering.TheVariants.{Less, Equal, Greater}
use Rattle.std.proofs.lemmas.Bool.{and_parts, eq-eqb}
use Rattle.std.proofs.lemmas.Option.{none-some}
use Rattle.ild_hamt_trie.proofs.Pairs.{none_from}
use Rattle.ild_data.specs.ByteOrder.{bytewise, in_byte_order, no_key_twice}
use Rattle.ild_data.specs.Data.{Data}
use Rattle.ild_data.specs.Trie.{part}
use Rattle.ild_hamt_trie.proofs.Parts.{find-sorted}

first_none : (e : List ℕ × Data) (es : List (List ℕ × Data)) → not (is_some (find bytewise e.0 es)) ≡ true → find bytewise e.0 (in_byte_order es) ≡ None
first_none e es one = find-sorted e.0 es ∙ none_from (find bytewise e.0 es) one

module _ (P : List ℕ × Data → Type 0) where
  all_put : (k : List ℕ) (v : Data) (es : List (List ℕ × Data)) → find bytewise k es ≡ None → P (k, v) → AllByRecursion P es → AllByRecursion P (put bytewise k v es)
  all_put k v [] none here all = (here, tt)
  all_put k v (e ∷ es) none here all = by (λ n. all_put k v es n here all.1) (bytewise k e.0) none
    where
      by : (find bytewise k es ≡ None → AllByRecursion P (put bytewise k v es)) → (o : Ordering) → cond (is_eq o) (Some e.1) (find bytewise k es) ≡ None
          → AllByRecursion P (match_ordering o ((k, v) ∷ e ∷ es) ((e.0, v) ∷ es) (e ∷ put bytewise k v es))
      by more Less n = (here, all)
      by more Equal n = absurd (none-some e.1 (sym n))
      by more Greater n = (all.0, more n)

  put_all : (k : List ℕ) (v : Data) (es : List (List ℕ × Data)) → find bytewise k es ≡ None → AllByRecursion P (put bytewise k v es) → P (k, v) × AllByRecursion P es
  put_all k v [] none all = all
  put_all k v (e ∷ es) none all = by (λ n rest. put_all k v es n rest) (bytewise k e.0) none all
    where
      by : (find bytewise k es ≡ None → AllByRecursion P (put bytewise k v es) → P (k, v) × AllByRecursion P es) → (o : Ordering) → cond (is_eq o) (Some e.1) (find bytewise k es) ≡ None
          → AllByRecursion P (match_ordering o ((k, v) ∷ e ∷ es) ((e.0, v) ∷ es) (e ∷ put bytewise k v es)) → P (k, v) × AllByRecursion P (e ∷ es)
      by more Less n all = all
      by more Equal n all = absurd (none-some e.1 (sym n))
      by more Greater n all = let x = more n all.1 in (x.0, (all.0, x.1))

  pub to_order : (es : List (List ℕ × Data)) → no_key_twice es ≡ true → AllByRecursion P es → AllByRecursion P (in_byte_order es)
  to_order [] one all = tt
  to_order (e ∷ es) one all =
      let parts = and_parts (not (is_some (find bytewise e.0 es))) (no_key_twice es) one in
      all_put e.0 e.1 (in_byte_order es) (first_none e es parts.0) all.0 (to_order es parts.1 all.1)

  pub from_order : (es : List (List ℕ × Data)) → no_key_twice es ≡ true → AllByRecursion P (in_byte_order es) → AllByRecursion P es
  from_order [] one all = tt
  from_order (e ∷ es) one all =
      let parts = and_parts (not (is_some (find bytewise e.0 es))) (no_key_twice es) one in
      let x = put_all e.0 e.1 (in_byte_order es) (first_none e es parts.0) all in
      (x.0, from_order es parts.1 x.1)

  -- each entry stands in the part of its index
  pub from_parts : (at : List ℕ → ℕ) (n : ℕ) (es : List (List ℕ × Data)) → ((k : List ℕ) → at k < n) → ((j : ℕ) → j < n → AllByRecursion P (part at es j)) → AllByRecursion P es
  from_parts at n [] below each = tt
  from_parts at n (e ∷ es) below each = (first, from_parts at n es below rest)
    where
      first : P e
      first = (subst (λ b. AllByRecursion P (cond b (e ∷ part at es (at e.0)) (part at es (at e.0)))) (eq-eqb (at e.0) (at e.0) refl) (each (at e.0) (below e.0))).0

      rest : (j : ℕ) → j < n → AllByRecursion P (part at es j)
      rest j low = by (at e.0 == j) (each j low)
        where
          by : (b : Bool) → AllByRecursion P (cond b (e ∷ part at es j) (part at es j)) → AllByRecursion P (part at es j)
          by true all = all.1
          by false all = all
