-- Where the segments of a path lead in a view, and what is told there.
use Rattle.std.proofs.Common.{◌≡◌, ℕ, zero, suc, ◌+◌, ◌-◌, ◌*◌, ◌<◌, ◌≤◌, List, [], ◌∷◌, ◌++◌, length, length-drop, drop, true, false, Option, Some, None, Result, Ok, Err, refl, sym, ap, ◌∙◌, subst, arith}
use Rattle.std.specs.Option.{option_map_or}
use Rattle.std.specs.Prelude.{slice_get}
use Rattle.std.proofs.lemmas.Option.{none-some}
use Rattle.std.proofs.Math.Logic.{∥∥₁_elim, ∥∥₁_map}
use Rattle.std.proofs.Props.{props}
use Rattle.ild_open_parts.proofs.Turning.{only_refl}
use Rattle.ild_data.specs.Data.{Data}
use Rattle.ild_data.specs.declared.tree.Tree.{Tree}
use Rattle.ild_edges.specs.Store.{Moment, block_at}
use Rattle.ild_typed_fronts.specs.Front.{front, front_in, is_hamt, is_root}
use Rattle.ild_open_held_parts.proofs.Leading.{paths_lead}
use Rattle.ild_open_held_parts.specs.Leads.{CountsHamts, IsFrontOf, Leads, LeadsHere, LeadsIn}
use Rattle.ild_open_parts.specs.Reads.{OnlyReads}
use Rattle.ild_script_meaning.specs.Costs.{met_in}
use Rattle.ild_schema.specs.Slots.{form_of}
use Rattle.ild_schema.specs.Value as V
use Rattle.ild_schema.specs.Value.{Value}
use Rattle.ild_schema.specs.declared.def.MapForm.TheVariants as MF
use Rattle.ild_schema.specs.declared.def.TypeDef.{TypeDef}
use Rattle.ild_schema.specs.declared.def.TypeDef.TheVariants as TD
use Rattle.ild_schema.specs.declared.row.Row.{Row}
use Rattle.ild_typed.specs.At.{InSlot, Reach, here, enter, no_path, at, met, or_enter, reached, seen}
use Rattle.ild_typed.specs.Schema.{IsSchema}
use Rattle.ild_typed.specs.Segment.{part}
use Rattle.ild_view.specs.Parts.{IsPartView}
use Rattle.ild_view.specs.Reaches.{Reaches}
use Rattle.ild_view.specs.View.{IsView, slot_of, table_of}
use Rattle.ild_view.specs.declared.step.NoPath.{NoPath}
use Rattle.ild_view.specs.declared.step.Step.{Step}
use Rattle.ild_view.specs.declared.step.Step.TheVariants as S
use Rattle.ild_view.specs.declared.view.View.{View}
use Rattle.ild_run_follow.specs.Tells.{FailsOnly, ViewHolds, TellAnswer, TellsFrom, TellsHere, TellsIn, TellsNothing, counts, part_nodes}
use Rattle.ild_run_follow.specs.Told.{told}
use Rattle.ild_run_follow.specs.declared.fault.ReadFault.{ReadFault}
use Rattle.ild_run_follow.specs.declared.fault.ReadFault.TheVariants as F
use Rattle.ild_run_follow.specs.declared.kind.Tell.{Tell}
use Rattle.ild_run_follow.specs.declared.kind.Tell.TheVariants as T
use Rattle.ild_run_follow.proofs.Rooms.{IsLeft, is_left, reach_part, room_low}
use Rattle.ild_run_follow.proofs.Standing.{part_at, viewed}
use Rattle.ild_run_follow.specs.inside.Rooms.{LeavesRoom, Steps, room_reached}

-- ---- no get at all

-- ---- where a path leads nowhere

nothing_told : (h : List ℕ → List ℕ) (rows : List Row) (tell : Tell) (m n : Moment) (result : Result Tree ReadFault) → TellsNothing tell result → TellAnswer (told h rows tell None) m result n
nothing_told h rows T.Presence m n (Ok tree) is = ap Some (sym is)
nothing_told h rows T.Presence m n (Err e) is = absurd is
nothing_told h rows T.Shown m n (Ok tree) is = absurd is
nothing_told h rows T.Shown m n (Err e) is = subst (λ (x : ReadFault). TellAnswer (told h rows T.Shown None) m (Err x) n) (sym is) refl
nothing_told h rows T.Representation m n (Ok tree) is = absurd is
nothing_told h rows T.Representation m n (Err e) is = subst (λ (x : ReadFault). TellAnswer (told h rows T.Representation None) m (Err x) n) (sym is) refl
nothing_told h rows T.Count m n (Ok tree) is = absurd is
nothing_told h rows T.Count m n (Err e) is = subst (λ (x : ReadFault). TellAnswer (told h rows T.Count None) m (Err x) n) (sym is) refl
nothing_told h rows T.Parts m n (Ok tree) is = absurd is
nothing_told h rows T.Parts m n (Err e) is = subst (λ (x : ReadFault). TellAnswer (told h rows T.Parts None) m (Err x) n) (sym is) refl

pub none_answer : (h : List ℕ → List ℕ) (rows : List Row) (tell : Tell) (m n : Moment) (result : Result Tree ReadFault) (o : Option InSlot) → o ≡ None → TellsNothing tell result → TellAnswer (told h rows tell o) m result n
none_answer h rows tell m n result o is nothing = subst (λ (x : Option InSlot). TellAnswer (told h rows tell x) m result n) (sym is) (nothing_told h rows tell m n result nothing)

-- ---- the store's failing

pub same_fails : (A B : Type 0) (m n : Moment) (e : ReadFault) → FailsOnly {A = A} m (Err e) n → FailsOnly {A = B} m (Err e) n
same_fails A B m n F.Path f = tt
same_fails A B m n (F.Block id why) f = tt
same_fails A B m n F.Store f = f
same_fails A B m n F.Memory f = tt

pub memory_fails : (m n : Moment) (e : ReadFault) → e ≡ F.Memory → FailsOnly {A = Tree} m (Err e) n
memory_fails m n e is = subst (λ (x : ReadFault). FailsOnly {A = Tree} m (Err x) n) (sym is) tt

path_fails : (m n : Moment) (e : ReadFault) → e ≡ F.Path → FailsOnly {A = Tree} m (Err e) n
path_fails m n e is = subst (λ (x : ReadFault). FailsOnly {A = Tree} m (Err x) n) (sym is) tt

pub nothing_fails : (tell : Tell) (m n : Moment) (result : Result Tree ReadFault) → TellsNothing tell result → FailsOnly m result n
nothing_fails tell m n (Ok tree) is = tt
nothing_fails T.Presence m n (Err e) is = absurd is
nothing_fails T.Shown m n (Err e) is = path_fails m n e is
nothing_fails T.Representation m n (Err e) is = path_fails m n e is
nothing_fails T.Count m n (Err e) is = path_fails m n e is
nothing_fails T.Parts m n (Err e) is = path_fails m n e is

-- HAMTs alone count anything
map_counts : (h : List ℕ → List ℕ) (rows : List Row) (o : Option TypeDef) (ps : V.Pairs) (k : List ℕ) → is_hamt o ≡ false → met_in h rows o (V.map ps) k ≡ 0
map_counts h rows (Some (TD.Map key key_at value place (MF.Hamt shape))) ps k e = absurd cc
map_counts h rows (Some (TD.Map key key_at value place MF.Map)) ps k e = refl
map_counts h rows (Some (TD.Map key key_at value place MF.ListPairs)) ps k e = refl
map_counts h rows (Some (TD.Map key key_at value place (MF.StringPairs i d))) ps k e = refl
map_counts h rows o ps k e = refl

hamts_count : (h : List ℕ → List ℕ) (rows : List Row) → CountsHamts rows (counts h rows)
hamts_count h rows p k e = by p.0 p.1 e where
  by : (s : _) (v : Value) → is_root rows (s, v) ≡ false → met_in h rows (form_of rows s) v k ≡ 0
  by s (V.map ps) plain = map_counts h rows (form_of rows s) ps k plain
  by s v plain = refl

-- ---- what is reached

module _ (h : List ℕ → List ℕ) (rows : List Row) (block : List ℕ → Option (List ℕ)) (room k : ℕ) (p : InSlot) (path : List (List ℕ)) where
  record IsHere (r : Reach) (view : View) : Type 0 where
    q : InSlot
    is : reach_part r ≡ Some q
    view_is : IsPartView rows q view
    leads : LeadsHere block h rows room q p path

  to_here : (r : Reach) (view : View) → Reaches rows r (Ok (S.Here view)) → Leads block h rows room k p path r → IsHere r view
  to_here (here q) view reaches leads = record { q = q; is = refl; view_is = reaches; leads = leads }
  to_here (enter q j) view reaches leads = absurd reaches
  to_here (no_path j) view reaches leads = absurd reaches

  record IsIn (r : Reach) (view : View) (j : ℕ) : Type 0 where
    q : InSlot
    is : reach_part r ≡ Some q
    view_is : IsPartView rows q view
    n : ℕ
    at_is : j ≡ k + n
    leads : LeadsIn block h rows room q p n path

  to_enter : (r : Reach) (view : View) (j : ℕ) → Reaches rows r (Ok (S.Enter view j)) → Leads block h rows room k p path r → IsIn r view j
  to_enter (here q) view j reaches leads = absurd reaches
  to_enter (enter q i) view j reaches leads = record { q = q; is = refl; view_is = reaches.0; n = leads.0; at_is = reaches.1 ∙ leads.1; leads = leads.2 }
  to_enter (no_path i) view j reaches leads = absurd reaches

  to_none : (r : Reach) (e : NoPath) → Reaches rows r (Err e) → Leads block h rows room k p path r → at rows p path ≡ None
  to_none (here q) e reaches leads = absurd reaches
  to_none (enter q i) e reaches leads = absurd reaches
  to_none (no_path i) e reaches leads = leads

pub stepped : (view : View) (k : ℕ) (path : List (List ℕ)) (s t : Step) → s ≡ t → Steps view k path (Ok s) → Steps view k path (Ok t)
stepped view k path s t is steps = subst (λ (x : Step). Steps view k path (Ok x)) is steps

-- the key of a HAMT is no segment before those that were sought
behind_key : (rows : List Row) (k : ℕ) (p : InSlot) (path : List (List ℕ)) (view : View) (j : ℕ) → Reaches rows (reached rows k p path) (Ok (S.Enter view j)) → k ≤ j
behind_key rows k p [] view j reaches = absurd reaches
behind_key rows k p (s ∷ ss) view j reaches = by (part (seen rows p) s) reaches (λ q. behind_key rows (suc k) q ss view j) where
  by_value : (slot : _) (v : Value) → Reaches rows (or_enter k slot v) (Ok (S.Enter view j)) → k ≤ j
  by_value slot (V.hamt d) r = omega (arith, r.1)
  by_value slot v r = absurd r

  by : (o : Option InSlot) → Reaches rows (option_map_or (λ q. reached rows (suc k) q ss) o (or_enter k p.0 p.1)) (Ok (S.Enter view j)) → ((q : InSlot) → Reaches rows (reached rows (suc k) q ss) (Ok (S.Enter view j)) → suc k ≤ j) → k ≤ j
  by None r later = by_value p.0 p.1 r
  by (Some q) r later = let le = later q r in omega (arith, le)

pub key_behind : (view : View) (k : ℕ) (path : List (List ℕ)) (hamt : View) (j : ℕ) → Steps view k path (Ok (S.Enter hamt j)) → k ≤ j
key_behind view k path hamt j steps =
    ∥∥₁_elim view.stands (hlevel props) (λ s. behind_key (table_of view) k (slot_of view, s.value) path hamt j (steps s.value (record { room = s.room; tree = s.tree; stands = s.stands; front = s.front })))

-- it is a HAMT, of which the view has the root, and its key a segment of the path
record IsEntered (view : View) (k n j : ℕ) : Type 0 where
  tree : Data
  view_is : IsView view (V.hamt tree)
  within : j < k + n

entered : (rows : List Row) (k : ℕ) (p : InSlot) (path : List (List ℕ)) (view : View) (j : ℕ) → Reaches rows (reached rows k p path) (Ok (S.Enter view j)) → IsEntered view k (length path) j
entered rows k p [] view j reaches = absurd reaches
entered rows k p (s ∷ ss) view j reaches = by (part (seen rows p) s) reaches (λ q. entered rows (suc k) q ss view j) where
  by_value : (slot : _) (v : Value) → Reaches rows (or_enter k slot v) (Ok (S.Enter view j)) → IsEntered view k (length (s ∷ ss)) j
  by_value slot (V.hamt d) r = record { tree = d; view_is = r.0.view; within = omega (arith, r.1) }
  by_value slot v r = absurd r

  by : (o : Option InSlot) → Reaches rows (option_map_or (λ q. reached rows (suc k) q ss) o (or_enter k p.0 p.1)) (Ok (S.Enter view j))
      → ((q : InSlot) → Reaches rows (reached rows (suc k) q ss) (Ok (S.Enter view j)) → IsEntered view (suc k) (length ss) j) → IsEntered view k (length (s ∷ ss)) j
  by None r later = by_value p.0 p.1 r
  by (Some q) r later = let x = later q r in record { tree = x.tree; view_is = x.view_is; within = (let less = x.within in omega (arith, less)) }

pub enters_root : (view : View) (k : ℕ) (path : List (List ℕ)) (hamt : View) (j : ℕ) → Steps view k path (Ok (S.Enter hamt j)) → ∥ ((t : Data) × IsView hamt (V.hamt t)) ∥₁
enters_root view k path hamt j steps =
    ∥∥₁_map view.stands (λ s.
    let x = entered (table_of view) k (slot_of view, s.value) path hamt j (steps s.value (record { room = s.room; tree = s.tree; stands = s.stands; front = s.front })) in (x.tree, x.view_is))

pub enters_within : (view : View) (k : ℕ) (all : List (List ℕ)) (hamt : View) (j : ℕ) → k ≤ j → Steps view k (drop k all) (Ok (S.Enter hamt j)) → j < length all
enters_within view k all hamt j behind steps =
    ∥∥₁_elim view.stands (hlevel props) (λ s.
    let x = entered (table_of view) k (slot_of view, s.value) (drop k all) hamt j (steps s.value (record { room = s.room; tree = s.tree; stands = s.stands; front = s.front })) in
    let less = x.within in
    omega (arith, less, behind, length-drop k all))

pub never_past : (xs : List (List ℕ)) (k : ℕ) → k < length xs → None ≡ slice_get xs k → ⊥
never_past [] k less e = omega (arith, less)
never_past (y ∷ xs) zero less e = none-some y e
never_past (y ∷ xs) (suc k) less e = never_past xs k (omega (arith, less)) e

zero_plus : (n : ℕ) → 0 + n ≡ n
zero_plus n = omega arith

suc_plus : (a b : ℕ) → suc a + b ≡ suc (a + b)
suc_plus a b = omega arith

drop_nil : (n : ℕ) → drop {A = List ℕ} n [] ≡ []
drop_nil zero = refl
drop_nil (suc n) = refl

drop_more : (xs : List (List ℕ)) (a b : ℕ) → drop (a + b) xs ≡ drop b (drop a xs)
drop_more xs zero b = ap (λ n. drop n xs) (zero_plus b)
drop_more [] (suc a) b = drop_nil (suc a + b) ∙ sym (drop_nil b)
drop_more (x ∷ xs) (suc a) b = ap (λ n. drop n (x ∷ xs)) (suc_plus a b) ∙ drop_more xs a b

drop_front : (xs ys : List (List ℕ)) → drop (length xs) (xs ++ ys) ≡ ys
drop_front [] ys = refl
drop_front (x ∷ xs) ys = drop_front xs ys

module _ (h : List ℕ → List ℕ) (room : ℕ) (low : room ≤ 96) (view : View) (schema : IsSchema (table_of view)) (k : ℕ) (path : List (List ℕ)) (tell : Tell) (m n : Moment) (result : Result Tree ReadFault) where
  abbrev rows : List Row
  rows = table_of view

  abbrev At : Value → InSlot
  At v = (slot_of view, v)

  abbrev ReachIn : Value → Reach
  ReachIn v = reached rows k (front_in h rows (At v)) path

  leads_at : (t : Data) (v : Value) (x : ViewHolds h room view m t v) → Leads (block_at x.held) h rows room k (At v) path (ReachIn v)
  leads_at t v x = paths_lead (block_at x.held) h rows schema room k (At v) t path x.value

  -- the part that is reached nests no deeper than what is left
  there : (less : ℕ) → LeavesRoom view room path less → (t : Data) (v : Value) (x : ViewHolds h room view m t v) (q p : InSlot) (w : View) → reach_part (ReachIn v) ≡ Some q → IsPartView rows q w
      → (y : IsFrontOf (block_at x.held) h rows room q p) → ViewHolds h less w m y.tree p.1
  there less leaves t v x q p w is view_is y =
      let same : less ≡ room_reached rows room (front_in h rows (At v)) path = leaves (front h rows (slot_of view) v) (viewed h room view m t v schema x) in
      let le = room_low rows room (front_in h rows (At v)) path in
      let left = is_left (block_at x.held) h rows schema path room q k (At v) t x.value is in
      part_at h rows schema x.held m x.told room less low (omega (arith, same, le)) q p w view_is (subst (λ n. IsLeft (block_at x.held) h rows n q) (sym same) left) y

  -- here
  pub tells_here : (part : View) (less : ℕ) → Steps view k path (Ok (S.Here part)) → LeavesRoom view room path less → TellsHere h less part tell m result n → TellsFrom h room view path tell m result n
  tells_here part less steps leaves tells = record {
    answer = λ t v x.
        let y = to_here h rows (block_at x.held) room k (At v) path (ReachIn v) part (steps (front h rows (slot_of view) v) (viewed h room view m t v schema x)) (leads_at t v x) in
        let slot : slot_of part ≡ y.leads.part.0 = y.view_is.slot ∙ ap (λ (q : InSlot). q.0) y.leads.is.front in
        let own = tells.answer y.leads.is.tree y.leads.part.1 (there less leaves t v x y.q y.leads.part part y.is y.view_is y.leads.is) in
        let there : at rows (At v) path ≡ Some (slot_of part, y.leads.part.1) = y.leads.there ∙ (λ i. Some (sym slot i, y.leads.part.1)) in
        subst (λ (o : Option InSlot). TellAnswer (told h rows tell o) m result n) (sym there)
        (subst (λ (r : List Row). TellAnswer (told h r tell (Some (slot_of part, y.leads.part.1))) m result n) y.view_is.table own);
    gets = λ t v x.
        let y = to_here h rows (block_at x.held) room k (At v) path (ReachIn v) part (steps (front h rows (slot_of view) v) (viewed h room view m t v schema x)) (leads_at t v x) in
        let slot : slot_of part ≡ y.leads.part.0 = y.view_is.slot ∙ ap (λ (q : InSlot). q.0) y.leads.is.front in
        let own = tells.gets y.leads.is.tree y.leads.part.1 (there less leaves t v x y.q y.leads.part part y.is y.view_is y.leads.is) in
        let there : at rows (At v) path ≡ Some (slot_of part, y.leads.part.1) = y.leads.there ∙ (λ i. Some (sym slot i, y.leads.part.1)) in
        let same : part_nodes h (table_of part) tell (Some (slot_of part, y.leads.part.1)) ≡ part_nodes h rows tell (at rows (At v) path) =
        ap (λ (r : List Row). part_nodes h r tell (Some (slot_of part, y.leads.part.1))) y.view_is.table ∙ ap (part_nodes h rows tell) (sym there) in
        omega (arith, own, same);
    only = tells.only;
    failed = tells.failed;
  }

  -- nowhere
  pub tells_none : (e : NoPath) → Steps view k path (Err e) → TellsNothing tell result → n ≡ m → TellsFrom h room view path tell m result n
  tells_none e steps nothing same = record {
    answer = λ t v x.
        let none = to_none h rows (block_at x.held) room k (At v) path (ReachIn v) e (steps (front h rows (slot_of view) v) (viewed h room view m t v schema x)) (leads_at t v x) in
        none_answer h rows tell m n result (at rows (At v) path) none nothing;
    gets = λ t v x. let is : n.gets ≡ m.gets = ap (λ (o : Moment). o.gets) same in omega (arith, is);
    only = subst (λ (o : Moment). OnlyReads m o) (sym same) (only_refl m);
    failed = nothing_fails tell m n result nothing;
  }

  -- into a HAMT, whose key is the segment with the number j of the whole path
  pub tells_in : (hamt : View) (less j : ℕ) (all : List (List ℕ)) → path ≡ drop k all → Steps view k path (Ok (S.Enter hamt j)) → LeavesRoom view room path less → TellsIn h less hamt (drop j all) tell m result n
      → TellsFrom h room view path tell m result n
  tells_in hamt less j all is steps leaves tells = record {
    answer = λ t v x.
        let y = to_enter h rows (block_at x.held) room k (At v) path (ReachIn v) hamt j (steps (front h rows (slot_of view) v) (viewed h room view m t v schema x)) (leads_at t v x) in
        let slot : slot_of hamt ≡ y.leads.hamt.0 = y.view_is.slot ∙ ap (λ (q : InSlot). q.0) y.leads.is.front in
        let left : drop j all ≡ y.leads.key ∷ y.leads.behind =
        ap (λ i. drop i all) y.at_is ∙ drop_more all k y.n ∙ ap (drop y.n) (sym is ∙ y.leads.split) ∙ ap (λ i. drop i (y.leads.before ++ y.leads.key ∷ y.leads.behind)) (sym y.leads.many) ∙ drop_front y.leads.before (y.leads.key ∷ y.leads.behind) in
        let same : at (table_of hamt) (slot_of hamt, y.leads.hamt.1) (drop j all) ≡ at rows (At v) path =
        (λ i. at (y.view_is.table i) (slot i, y.leads.hamt.1) (left i)) ∙ sym y.leads.goes in
        let root = subst (λ (r : List Row). is_root r (slot_of hamt, y.leads.hamt.1) ≡ true) (sym y.view_is.table) ((λ i. is_root rows (slot i, y.leads.hamt.1)) ∙ y.leads.root) in
        let own = tells.answer y.leads.is.tree y.leads.hamt.1 (there less leaves t v x y.q y.leads.hamt hamt y.is y.view_is y.leads.is) root in
        subst (λ (o : Option InSlot). TellAnswer (told h rows tell o) m result n) same
        (subst (λ (r : List Row). TellAnswer (told h r tell (at (table_of hamt) (slot_of hamt, y.leads.hamt.1) (drop j all))) m result n) y.view_is.table own);
    gets = λ t v x.
        let y = to_enter h rows (block_at x.held) room k (At v) path (ReachIn v) hamt j (steps (front h rows (slot_of view) v) (viewed h room view m t v schema x)) (leads_at t v x) in
        let slot : slot_of hamt ≡ y.leads.hamt.0 = y.view_is.slot ∙ ap (λ (q : InSlot). q.0) y.leads.is.front in
        let left : drop j all ≡ y.leads.key ∷ y.leads.behind =
        ap (λ i. drop i all) y.at_is ∙ drop_more all k y.n ∙ ap (drop y.n) (sym is ∙ y.leads.split) ∙ ap (λ i. drop i (y.leads.before ++ y.leads.key ∷ y.leads.behind)) (sym y.leads.many) ∙ drop_front y.leads.before (y.leads.key ∷ y.leads.behind) in
        let same : at (table_of hamt) (slot_of hamt, y.leads.hamt.1) (drop j all) ≡ at rows (At v) path =
        (λ i. at (y.view_is.table i) (slot i, y.leads.hamt.1) (left i)) ∙ sym y.leads.goes in
        let root = subst (λ (r : List Row). is_root r (slot_of hamt, y.leads.hamt.1) ≡ true) (sym y.view_is.table) ((λ i. is_root rows (slot i, y.leads.hamt.1)) ∙ y.leads.root) in
        let own = tells.gets y.leads.is.tree y.leads.hamt.1 (there less leaves t v x y.q y.leads.hamt hamt y.is y.view_is y.leads.is) root in
        let way : met (table_of hamt) (counts h (table_of hamt)) (slot_of hamt, y.leads.hamt.1) (drop j all) ≡ met rows (counts h rows) (At v) path =
        (λ i. met (y.view_is.table i) (counts h (y.view_is.table i)) (slot i, y.leads.hamt.1) (left i)) ∙ sym (y.leads.counts (counts h rows) (hamts_count h rows)) in
        let nodes : part_nodes h (table_of hamt) tell (at (table_of hamt) (slot_of hamt, y.leads.hamt.1) (drop j all)) ≡ part_nodes h rows tell (at rows (At v) path) =
        ap (λ (r : List Row). part_nodes h r tell (at (table_of hamt) (slot_of hamt, y.leads.hamt.1) (drop j all))) y.view_is.table ∙ ap (part_nodes h rows tell) same in
        omega (arith, own, way, nodes);
    only = tells.only;
    failed = tells.failed;
  }

-- ---- the measure of following

pub enters_lower : (n from k : ℕ) → from ≤ k → 2 * (n - k) < 2 * (n - from) + 1
enters_lower n from k le = omega (arith, le)

pub on_lower : (n k : ℕ) → k < n → 2 * (n - (k + 1)) + 1 < 2 * (n - k)
on_lower n k less = omega (arith, less)

pub below_length : (xs : List (List ℕ)) (k : ℕ) (x : List ℕ) → Some x ≡ slice_get xs k → k < length xs
below_length [] k x e = absurd (none-some x (sym e))
below_length (y ∷ xs) zero x e = omega arith
below_length (y ∷ xs) (suc k) x e = let le = below_length xs k x e in omega (arith, le)
