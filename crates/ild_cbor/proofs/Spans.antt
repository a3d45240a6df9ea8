-- The parts of a tree in its spelling: what stands before each, and what behind.
use Rattle.std.proofs.Common.{◌≡◌, ℕ, zero, suc, ◌+◌, ◌-◌, Bool, true, false, cond, List, [], ◌∷◌, ◌++◌, length, length-append, append_assoc, append-nil, take, drop, Some, refl, sym, ap, subst, ◌∙◌, arith}
use Rattle.std.specs.Prelude.{slice_get, option_map, option_and_then}
use Rattle.std.proofs.lemmas.List.{take_at, drop_at}
use Rattle.ild_data.proofs.Options.{chain_some}
use Rattle.ild_data.specs.Data.{Data, null, boolean, integer, text, bytes, list, map, link, Items, no_items, item, Members, no_members, member, items_list, members_list}
use Rattle.ild_data.specs.Spell.{head, spell, spell_text, spell_items, spell_members}
use Rattle.ild_data.specs.Key.{same_text, value_at}
use Rattle.ild_cbor.specs.Span.{part_of, items_before, values_before, before_part, place_of, tree_at, Span, beneath, span_of, key_index, index_of, entry_of}
use Rattle.ild_cbor.specs.Laws.{HasSpan}
use Rattle.ild_cbor.proofs.Steps.{some_is}

-- a whole, where u stands in it behind front
pub record Within (whole front u : List ℕ) : Type 0 where
  pub after : List ℕ
  pub is : whole ≡ front ++ (u ++ after)

abbrev behind : (whole front u more : List ℕ) → whole ≡ front ++ (u ++ more) → Within whole front u
behind whole front u more e = record { after = more; is = e }

pub deeper : (a whole front u : List ℕ) → Within whole front u → Within (a ++ whole) (a ++ front) u
deeper a whole front u h = record { after = h.after; is = ap (λ (t : List ℕ). a ++ t) h.is ∙ sym (append_assoc a front (u ++ h.after)) }

pub in_items : (ds : Items) (i : ℕ) (u : Data) → slice_get (items_list ds) i ≡ Some u → Within (spell_items ds) (items_before i ds) (spell u)
in_items no_items i u e = absurd cc
in_items (item d ds) zero u e = record { after = spell_items ds; is = ap (λ (t : Data). spell t ++ spell_items ds) (some_is d u e) }
in_items (item d ds) (suc i) u e = deeper (spell d) (spell_items ds) (items_before i ds) (spell u) (in_items ds i u e)

pub in_members : (ms : Members) (i : ℕ) (u : Data) → option_map (λ m. m.1) (slice_get (members_list ms) i) ≡ Some u → Within (spell_members ms) (values_before i ms) (spell u)
in_members no_members i u e = absurd cc
in_members (member k d ms) zero u e =
    record { after = spell_members ms; is = append_assoc (spell_text k) (spell d) (spell_members ms) ∙ ap (λ (t : Data). spell_text k ++ (spell t ++ spell_members ms)) (some_is d u e) }
in_members (member k d ms) (suc i) u e =
    let w = deeper (spell_text k) (spell d ++ spell_members ms) (spell d ++ values_before i ms) (spell u) (deeper (spell d) (spell_members ms) (values_before i ms) (spell u) (in_members ms i u e)) in
    record { after = w.after; is = append_assoc (spell_text k) (spell d) (spell_members ms) ∙ w.is }

-- each part stands behind what is said to stand before it
pub in_part : (t : Data) (i : ℕ) (u : Data) → part_of t i ≡ Some u → Within (spell t) (before_part t i) (spell u)
in_part null i u e = absurd cc
in_part (boolean b) i u e = absurd cc
in_part (integer n) i u e = absurd cc
in_part (text s) i u e = absurd cc
in_part (bytes s) i u e = absurd cc
in_part (list ds) i u e = deeper (head 4 (length (items_list ds))) (spell_items ds) (items_before i ds) (spell u) (in_items ds i u e)
in_part (map ms) i u e = deeper (head 5 (length (members_list ms))) (spell_members ms) (values_before i ms) (spell u) (in_members ms i u e)
in_part (link s) i u e = absurd cc

-- ---- spans

-- a span where u stands
record SpanIs (t u : Data) (s : Span) : Type 0 where
  pub front : List ℕ
  pub within : Within (spell t) front (spell u)
  pub start : length front ≡ s.start
  pub size : length (spell u) ≡ s.size

span_step : (t v : Data) (i : ℕ) (q : List ℕ) (s : Span) → part_of t i ≡ Some v → span_of v q ≡ Some s → span_of t (i ∷ q) ≡ Some (beneath (place_of t i) s)
span_step t v i q s e f = ap (option_and_then (λ u. option_map (beneath (place_of t i)) (span_of u q))) e ∙ ap (option_map (beneath (place_of t i))) f

span_is : (t u : Data) (q : List ℕ) → tree_at t q ≡ Some u → (s : Span) × (span_of t q ≡ Some s) × SpanIs t u s
span_is t u [] e =
    let here : t ≡ u = some_is t u e in
    let s : Span = record { start = 0; size = length (spell t) } in
    (s, refl, subst (λ (v : Data). SpanIs t v s) here (record { front = []; within = record { after = []; is = sym (append-nil (spell t)) }; start = refl; size = refl }))
span_is t u (i ∷ q) e =
    let p = chain_some (λ v. tree_at v q) (part_of t i) u e in
    let r = span_is p.0 u q p.2 in
    let below = r.2 in
    let w = in_part t i p.0 p.1 in
    let b = below.within in
    let start = below.start in
    let is : spell t ≡ (before_part t i ++ below.front) ++ (spell u ++ (b.after ++ w.after)) =
    w.is ∙ ap (λ (x : List ℕ). before_part t i ++ (x ++ w.after)) b.is ∙ ap (λ (x : List ℕ). before_part t i ++ x) (append_assoc below.front (spell u ++ b.after) w.after ∙ ap (λ (x : List ℕ). below.front ++ x) (append_assoc (spell u) b.after w.after))
    ∙ sym (append_assoc (before_part t i) below.front (spell u ++ (b.after ++ w.after))) in
    let len = length-append (before_part t i) below.front in
    (beneath (place_of t i) r.0, span_step t p.0 i q r.0 p.1 r.1, record { front = before_part t i ++ below.front; within = record { after = b.after ++ w.after; is = is }; start = omega arith; size = below.size })

pub spans_lem : (t u : Data) (q : List ℕ) → tree_at t q ≡ Some u → HasSpan t u q
spans_lem t u q e =
    let r = span_is t u q e in
    let s = r.0 in
    let p = r.2 in
    let w = p.within in
    let long : s.start + s.size - s.start ≡ s.size = omega arith in
    record {
      span = s;
      is = r.1;
      spelled = ap (λ (k : ℕ). take k (drop s.start (spell t))) long ∙ ap (λ (x : List ℕ). take s.size x) (ap (drop s.start) w.is ∙ drop_at p.front (spell u ++ w.after) s.start p.start) ∙ take_at (spell u) w.after s.size p.size;
    }

-- ---- keys

value_by_index : (b : Bool) (d : Data) (key : List ℕ) (ms : Members) → value_at key (members_list ms) ≡ option_map (λ m. m.1) (slice_get (members_list ms) (key_index key ms))
    → (k : List ℕ) → cond b (Some d) (value_at key (members_list ms)) ≡ option_map (λ m. m.1) (slice_get (members_list (member k d ms)) (cond b 0 (suc (key_index key ms))))
value_by_index true d key ms e k = refl
value_by_index false d key ms e k = e

pub entries_lem : (ms : Members) (key : List ℕ) → entry_of (map ms) key ≡ part_of (map ms) (index_of key (map ms))
entries_lem no_members key = refl
entries_lem (member k d ms) key = value_by_index (same_text key k) d key ms (entries_lem ms key) k
