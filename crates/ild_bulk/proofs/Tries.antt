-- The trie of rows, and its blocks.
use Rattle.std.proofs.Common.{◌≡◌, ℕ, ◌+◌, ◌-◌, ◌≤◌, ◌<◌, Bool, true, false, not, cond, ◌&&◌, ◌||◌, List, [], ◌∷◌, ◌++◌, take, length, get_or, Ok, Err, Result, inl, inr, Option, Some, None, is_some, option_map, refl, sym, ap, ◌∙◌, subst, arith}
use Rattle.std.specs.Ordering.{is_lt, is_eq}
use Rattle.std.specs.FinMap.{find, is_sorted}
use Rattle.std.specs.FinMap.Entries.{below_all}
use Rattle.std.proofs.lemmas.Bool.{and_parts}
use Rattle.std.proofs.lemmas.List.{take_more, take_all, map-append}
use Rattle.ild_data.specs.Data.{Data}
use Rattle.ild_data.specs.Spell.{spell}
use Rattle.ild_data.specs.declared.hamt_shape.HamtShape.{HamtShape}
use Rattle.ild_data.specs.TrieShape.{trie_levels}
use Rattle.ild_data.specs.ByteOrder.{bytewise, no_key_twice}
use Rattle.ild_data.specs.Trie.{node_of, trie}
use Rattle.ild_hamt_trie.proofs.Node.{trie-sorted}
use Rattle.ild_hamt_trie.proofs.Parts.{sorted_in_order}
use Rattle.ild_edges.specs.Store.{Moment}
use Rattle.ild_node.specs.declared.row.Row.{Row}
use Rattle.ild_node.specs.Rows.{row_seen, rows_seen, AreRows}
use Rattle.ild_typed.proofs.NodeEntries.{less, true_of}
use Rattle.ild_bulk.specs.Faults.{plan_fault}
use Rattle.ild_bulk.specs.declared.fault.PlanFault.{PlanFault}
use Rattle.ild_bulk.specs.declared.fault.PlanFault.TheVariants as P
use Rattle.ild_bulk.specs.Planned.{PlansNode, planned}
use Rattle.ild_bulk.specs.Build.{plan_of, HasTrie, HasShortTrie, HasLongTrie, Stops, Builds, any_long, is_long}
use Rattle.ild_bulk.specs.Putting.{PutsAll}
use Rattle.ild_node_slots.specs.declared.fault.HamtFault.{HamtFault}
use Rattle.ild_node_slots.specs.declared.fault.HamtFault.TheVariants as F
use Rattle.ild_node.specs.declared.keyed.Keyed.{Keyed}
use Rattle.ild_bulk.specs.Keyed.{AreKeyed}
use Rattle.ild_node.specs.Keyed.{keyed_rows, keyed_seen}

no_find : (k : List ℕ) (es : List (List ℕ × Data)) → below_all bytewise k es ≡ true → find bytewise k es ≡ None
no_find k [] below = refl
no_find k (e ∷ es) below =
    let parts = and_parts (is_lt (bytewise k e.0)) (below_all bytewise k es) below in
    (λ i. cond (is_eq (less (bytewise k e.0) parts.0 i)) (Some e.1) (no_find k es parts.1 i))

pub once : (es : List (List ℕ × Data)) → is_sorted bytewise es ≡ true → no_key_twice es ≡ true
once [] order = refl
once (e ∷ es) order =
    let parts = and_parts (below_all bytewise e.0 es) (is_sorted bytewise es) order in
    (λ i. not (is_some (no_find e.0 es parts.0 i)) && once es parts.1 i)

pub trie-rows : (h : List ℕ → List ℕ) (p : HamtShape) (es : List (List ℕ × Data)) → AreRows es → trie h p es 0 ≡ node_of h p (trie_levels p - 0) 0 es
trie-rows h p es rows = trie-sorted h p es 0 (once es (true_of _ rows.0)) ∙ ap (node_of h p (trie_levels p - 0) 0) (sorted_in_order es rows.0)

node_in : (o : Option Data) (root : List ℕ) → Some root ≡ option_map spell o → (node : Data) × (o ≡ Some node) × (root ≡ spell node)
node_in None root is = absurd cc
node_in (Some node) root is = (node, refl, cc)

pub has-trie : (h : List ℕ → List ℕ) (p : HamtShape) (es fs : List (List ℕ × Data)) (root : List ℕ) (old new : List (List ℕ)) → fs ≡ es → AreRows es → PlansNode h p (trie_levels p - 0) 0 fs (Ok root) old new → HasTrie h p es root
has-trie h p es fs root old new same rows plans =
    let n = node_in (node_of h p (trie_levels p - 0) 0 fs) root plans.0 in
    record { node = n.0; is = trie-rows h p es rows ∙ ap (node_of h p (trie_levels p - 0) 0) (sym same) ∙ n.1; spelled = n.2 }

pub no-trie : (h : List ℕ → List ℕ) (p : HamtShape) (es fs : List (List ℕ × Data)) → fs ≡ es → AreRows es → node_of h p (trie_levels p - 0) 0 fs ≡ None → trie h p es 0 ≡ None
no-trie h p es fs same rows none = trie-rows h p es rows ∙ ap (node_of h p (trie_levels p - 0) 0) (sym same) ∙ none

-- a plan that ended with a fault
pub plan-stopped : (h : List ℕ → List ℕ) (p : HamtShape) (es fs : List (List ℕ × Data)) (e : PlanFault) (old new : List (List ℕ)) (m : Moment) → fs ≡ es → AreRows es → PlansNode h p (trie_levels p - 0) 0 fs (Err e) old new
    → Builds h p es m (Err (plan_fault e)) m
plan-stopped h p es fs P.Exhausted old new m same rows plans = (no-trie h p es fs same rows plans, refl)
plan-stopped h p es fs P.Memory old new m same rows plans = inl refl

pub plan-is : (h : List ℕ → List ℕ) (p : HamtShape) (es fs : List (List ℕ × Data)) (root : List ℕ) (old new : List (List ℕ)) → fs ≡ es → old ≡ [] → PlansNode h p (trie_levels p - 0) 0 fs (Ok root) old new → new ≡ plan_of h p es
plan-is h p es fs root old new same none plans =
    let all : trie_levels p - 0 ≡ trie_levels p = omega arith in
    plans.1 ∙ (λ i. none i ++ planned h p (all i) 0 (same i))

long_push : (bs : List (List ℕ)) (b : List ℕ) → any_long (bs ++ b ∷ []) ≡ (any_long bs || is_long b)
long_push [] b = or_false (is_long b)
  where
    or_false : (c : Bool) → (c || false) ≡ c
    or_false true = refl
    or_false false = refl
long_push (c ∷ bs) b = ap (λ x. is_long c || x) (long_push bs b) ∙ or_assoc (is_long c) (any_long bs) (is_long b)
  where
    or_assoc : (x y z : Bool) → (x || (y || z)) ≡ ((x || y) || z)
    or_assoc true y z = refl
    or_assoc false y z = refl

pub long-more : (bs : List (List ℕ)) (i : ℕ) (b : List ℕ) (long one : Bool) → long ≡ any_long (take i bs) → one ≡ is_long b → i + 1 ≤ length bs → b ≡ get_or bs i b → (long || one) ≡ any_long (take (i + 1) bs)
long-more bs i b long one was is lt here =
    (λ j. was j || is j) ∙ sym (ap any_long (take_more bs i b (omega arith) ∙ ap (λ c. take i bs ++ c ∷ []) (sym here)) ∙ long_push (take i bs) b)

pub long-done : (bs : List (List ℕ)) (i : ℕ) (long : Bool) → long ≡ any_long (take i bs) → length bs ≤ i → long ≡ any_long bs
long-done bs i long was le = was ∙ ap any_long (take_all i bs le)

-- ---- copies

pub copied-more : (rows : List Row) (ks : List Keyed) (i : ℕ) (k : Keyed) (new : List Row) (s : Row) → rows_seen rows ≡ keyed_rows (take i ks) → row_seen s ≡ keyed_seen k → new ≡ rows ++ s ∷ [] → i < length ks → k ≡ get_or ks i k
    → rows_seen new ≡ keyed_rows (take (i + 1) ks)
copied-more rows ks i k new s was same pushes lt is =
    ap rows_seen pushes ∙ map-append row_seen rows (s ∷ []) ∙ (λ j. was j ++ same j ∷ [])
    ∙ sym (ap keyed_rows (take_more ks i k lt ∙ ap (λ t. take i ks ++ t ∷ []) (sym is)) ∙ map-append keyed_seen (take i ks) (k ∷ []))

-- the rows so far, with their hashes
pub record KeyedSoFar (h : List ℕ → List ℕ) (rows : List Row) (i : ℕ) (ks : List Keyed) : Type 0 where
  pub rows_are : keyed_rows ks ≡ rows_seen (take i rows)
  pub hashes : AreKeyed h ks

all_push : (h : List ℕ → List ℕ) (ks : List Keyed) (k : Keyed) → AreKeyed h ks → k.hash ≡ h (keyed_seen k).0 → AreKeyed h (ks ++ k ∷ [])
all_push h [] k all is = (is, tt)
all_push h (j ∷ ks) k all is = (all.0, all_push h ks k all.1 is)

pub keyed-more : (h : List ℕ → List ℕ) (rows : List Row) (i : ℕ) (ks new : List Keyed) (k : Keyed) (r : Row) → KeyedSoFar h rows i ks → new ≡ ks ++ k ∷ [] → k.row.now ≡ r → k.hash ≡ h r.key → i < length rows → r ≡ get_or rows i r
    → KeyedSoFar h rows (i + 1) new
keyed-more h rows i ks new k r was pushes row hash lt is = record {
  rows_are = ap keyed_rows pushes ∙ map-append keyed_seen ks (k ∷ []) ∙ (λ j. was.rows_are j ++ row_seen (row j) ∷ [])
      ∙ sym (ap rows_seen (take_more rows i r lt ∙ ap (λ t. take i rows ++ t ∷ []) (sym is)) ∙ map-append row_seen (take i rows) (r ∷ []));
  hashes = subst (λ (xs : List Keyed). AreKeyed h xs) (sym pushes) (all_push h ks k was.hashes (hash ∙ ap (λ (x : Row). h x.key) (sym row)));
}

-- ---- how a build ends

pub long-is : (root : List ℕ) (bs plan : List (List ℕ)) (a b : Bool) → a ≡ is_long root → b ≡ any_long bs → bs ≡ plan → any_long (root ∷ plan) ≡ (a || b)
long-is root bs plan a b first rest same = sym (λ j. first j || (rest ∙ ap any_long same) j)

pub stops-any : (h : List ℕ → List ℕ) (p : HamtShape) (es : List (List ℕ × Data)) (m : Moment) (e : HamtFault) (n : Moment) → Stops h p es m e n → Builds h p es m (Err e) n
stops-any h p es m F.Exhausted n s = absurd s.puts.answer
stops-any h p es m (F.Block id why) n s = absurd s.puts.answer
stops-any h p es m F.Store n s = s
stops-any h p es m (F.Clash id kept new) n s = s
stops-any h p es m F.Size n s = absurd s.puts.answer
stops-any h p es m F.NoKey n s = absurd s.puts.answer
stops-any h p es m F.Memory n s = inr s

pub build-long : (h : List ℕ → List ℕ) (p : HamtShape) (es fs : List (List ℕ × Data)) (root : List ℕ) (old new bs : List (List ℕ)) (a b : Bool) → fs ≡ es → AreRows es → old ≡ []
    → PlansNode h p (trie_levels p - 0) 0 fs (Ok root) old new → bs ≡ new → a ≡ is_long root → b ≡ any_long bs → (a || b) ≡ true → HasLongTrie h p es
build-long h p es fs root old new bs a b same rows none plans read first rest is = record {
  root = root;
  trie = has-trie h p es fs root old new same rows plans;
  long = long-is root bs (plan_of h p es) a b first rest (read ∙ plan-is h p es fs root old new same none plans) ∙ is;
}

pub build-short : (h : List ℕ → List ℕ) (p : HamtShape) (es fs : List (List ℕ × Data)) (root : List ℕ) (old new bs : List (List ℕ)) (a b : Bool) → fs ≡ es → AreRows es → old ≡ []
    → PlansNode h p (trie_levels p - 0) 0 fs (Ok root) old new → bs ≡ new → a ≡ is_long root → b ≡ any_long bs → (a || b) ≡ false → HasShortTrie h p es root
build-short h p es fs root old new bs a b same rows none plans read first rest is = record {
  trie = has-trie h p es fs root old new same rows plans;
  short = long-is root bs (plan_of h p es) a b first rest (read ∙ plan-is h p es fs root old new same none plans) ∙ is;
}

pub puts-plan : (h : List ℕ → List ℕ) (p : HamtShape) (es fs : List (List ℕ × Data)) (root : List ℕ) (old new bs : List (List ℕ)) (m : Moment) (r : Result (Unit {0}) HamtFault) (n : Moment) → fs ≡ es → old ≡ []
    → PlansNode h p (trie_levels p - 0) 0 fs (Ok root) old new → bs ≡ new → PutsAll m bs r n → PutsAll m (plan_of h p es) r n
puts-plan h p es fs root old new bs m r n same none plans read puts =
    subst (λ (cs : List (List ℕ)). PutsAll m cs r n) (read ∙ plan-is h p es fs root old new same none plans) puts
