-- Hops one behind another: the last of them, one more at the end, and one fewer.
use Rattle.std.proofs.Common.{◌≡◌, ◌⊎◌, inl, inr, ⊎_elim, ℕ, ◌-◌, ◌<◌, List, [], ◌∷◌, ◌++◌, length, length-append, append_assoc, Option, Some, None, refl, sym, ap, ◌∙◌, subst, arith}
use Rattle.std.specs.List.{slice_get}
use Rattle.std.proofs.Math.Seq.{get_or-append_seam}
use Rattle.std.proofs.lemmas.Option.{none-some, same_Some, slice_get-get_or}
use Rattle.ild_path_entry.specs.Entry.{data_in, slot_in, table_in}
use Rattle.ild_path_hops.specs.Hops.{front_of}
use Rattle.ild_path_hops.specs.Links.{AreLinked, IsBehind, RootBehind}
use Rattle.ild_path_hops.specs.declared.hop.Hop.{Hop}
use Rattle.ild_schema.specs.Value.{Value}
use Rattle.ild_schema.specs.declared.row.Row.{Row}
use Rattle.ild_typed.specs.At.{InSlot}
use Rattle.ild_typed.specs.Fits.{Front}
use Rattle.ild_view.specs.View.{IsView, slot_of, table_of}
use Rattle.ild_view.specs.declared.view.View.{View}

-- ---- the last hop

pub last_there : (before : List Hop) (above : Hop) → slice_get (before ++ above ∷ []) (length (before ++ above ∷ []) - 1) ≡ Some above
last_there before above =
    let at : length (before ++ above ∷ []) - 1 ≡ length before = omega (arith, length-append before (above ∷ [])) in
    let less : length before < length (before ++ above ∷ []) = omega (arith, length-append before (above ∷ [])) in
    ap (slice_get (before ++ above ∷ [])) at ∙ slice_get-get_or (before ++ above ∷ []) (length before) above less ∙ ap (λ y. Some y) (get_or-append_seam before above [] above)

pub last_is : (before : List Hop) (above x : Hop) (hops : List Hop) → hops ≡ before ++ above ∷ [] → Some x ≡ slice_get hops (length hops - 1) → x ≡ above
last_is before above x hops is e = same_Some x above (e ∙ ap (λ hs. slice_get hs (length hs - 1)) is ∙ last_there before above)

pub none_or_last : (hs : List Hop) → (hs ≡ []) ⊎ ((before : List Hop) × (above : Hop) × (hs ≡ before ++ above ∷ []))
none_or_last [] = inl refl
none_or_last (x ∷ hs) = ⊎_elim (λ none. inr ([], x, ap (λ zs. x ∷ zs) none)) (λ z. inr (x ∷ z.0, z.1, ap (λ zs. x ∷ zs) z.2)) (none_or_last hs)

no_last : (x : Hop) (hops : List Hop) → hops ≡ [] → Some x ≡ slice_get hops (length hops - 1) → ⊥
no_last x hops none e = none-some x (sym (e ∙ ap (λ hs. slice_get hs (length hs - 1)) none))

pub none_last : (hops : List Hop) → None ≡ slice_get hops (length hops - 1) → hops ≡ []
none_last hops e = ⊎_elim (λ none. none) (λ z. absurd (none-some z.1 (e ∙ ap (λ hs. slice_get hs (length hs - 1)) z.2 ∙ last_there z.0 z.1))) (none_or_last hops)

-- ---- what is so behind them

abbrev pub OfEntry : (List Row → InSlot → Type 0) → Hop → Type 0
OfEntry Holds hop = (f : Value) (room : ℕ) → Front (table_in hop.entry) room (slot_in hop.entry) f (data_in hop.entry) → Holds (table_in hop.entry) (slot_in hop.entry, f)

module _ (Holds : List Row → InSlot → Type 0) (root : View) (hops : List Hop) where
  pub on_last : (hop : Hop) → Some hop ≡ slice_get hops (length hops - 1) → OfEntry Holds hop → IsBehind Holds root hops
  on_last hop last all = record {
    top = λ none. absurd (no_last hop hops none last);
    inner = λ before above is. subst (λ (k : Hop). OfEntry Holds k) (last_is before above hop hops is last) all;
  }

  pub on_top : None ≡ slice_get hops (length hops - 1) → ((f : Value) → IsView root f → Holds (table_of root) (slot_of root, f)) → IsBehind Holds root hops
  on_top none all = record {
    top = λ same. all;
    inner = λ before above is. absurd (none-some above (none ∙ ap (λ hs. slice_get hs (length hs - 1)) is ∙ last_there before above));
  }

  pub at_last : (hop : Hop) → Some hop ≡ slice_get hops (length hops - 1) → IsBehind Holds root hops → OfEntry Holds hop
  at_last hop last x =
      ⊎_elim (λ none. absurd (no_last hop hops none last)) (λ z. subst (λ (k : Hop). OfEntry Holds k) (sym (last_is z.0 z.1 hop hops z.2 last)) (x.inner z.0 z.1 z.2)) (none_or_last hops)

-- ---- one more, and one fewer

abbrev first : List Hop → Option Hop
first [] = None
first (x ∷ xs) = Some x

abbrev rest : List Hop → List Hop
rest [] = []
rest (x ∷ xs) = xs

firsts : (x y : Hop) (xs ys : List Hop) → x ∷ xs ≡ y ∷ ys → x ≡ y
firsts x y xs ys e = same_Some x y (ap first e)

rests : (x y : Hop) (xs ys : List Hop) → x ∷ xs ≡ y ∷ ys → xs ≡ ys
rests x y xs ys e = ap rest e

some_not_none : (before : List Hop) (g : Hop) (after : List Hop) → [] ≡ before ++ g ∷ after → ⊥
some_not_none [] g after e = none-some g (ap first e)
some_not_none (b ∷ before) g after e = none-some b (ap first e)

abbrev AtEnd : List Hop → Hop → List Hop → Hop → Type 0
AtEnd hops hop before g = ((hops ≡ before) × (hop ≡ g)) ⊎ ((after : List Hop) × (hops ≡ before ++ g ∷ after))

further : (x b : Hop) (hops : List Hop) (hop : Hop) (before : List Hop) (g : Hop) → x ≡ b → AtEnd hops hop before g → AtEnd (x ∷ hops) hop (b ∷ before) g
further x b hops hop before g same = ⊎_elim (λ e. inl ((λ i. same i ∷ e.0 i), e.1)) (λ z. inr (z.0, (λ i. same i ∷ z.1 i)))

at_end : (hops : List Hop) (hop : Hop) (before after : List Hop) (g : Hop) → hops ++ hop ∷ [] ≡ before ++ g ∷ after → AtEnd hops hop before g
at_end [] hop [] after g e = inl (refl, firsts hop g [] after e)
at_end [] hop (b ∷ before) after g e = absurd (some_not_none before g after (rests hop b [] (before ++ g ∷ after) e))
at_end (x ∷ hops) hop [] after g e = inr (hops, ap (λ y. y ∷ hops) (firsts x g (hops ++ hop ∷ []) after e))
at_end (x ∷ hops) hop (b ∷ before) after g e =
    further x b hops hop before g (firsts x b (hops ++ hop ∷ []) (before ++ g ∷ after) e) (at_end hops hop before after g (rests x b (hops ++ hop ∷ []) (before ++ g ∷ after) e))

pub linked_none : (root : View) (hops : List Hop) → hops ≡ [] → AreLinked root hops
linked_none root hops none = record { each = λ before after hop is. absurd (some_not_none before hop after (sym none ∙ is)) }

pub linked_more : (root : View) (hops : List Hop) (hop : Hop) → AreLinked root hops → RootBehind root hops (front_of hop) → AreLinked root (hops ++ hop ∷ [])
linked_more root hops hop all more = record {
  each = λ before after g is.
      ⊎_elim (λ e. subst (λ (k : Hop). RootBehind root before (front_of k)) e.1 (subst (λ (hs : List Hop). RootBehind root hs (front_of hop)) e.0 more)) (λ z. all.each before z.0 g z.1) (at_end hops hop before after g is);
}

pub linked_fewer : (root : View) (hops before : List Hop) (hop : Hop) → hops ≡ before ++ hop ∷ [] → AreLinked root hops → AreLinked root before
linked_fewer root hops before hop is all = record {
  each = λ front after g e. all.each front (after ++ hop ∷ []) g (is ∙ ap (λ hs. hs ++ hop ∷ []) e ∙ append_assoc front (g ∷ after) (hop ∷ []));
}
