-- What puts of the planned blocks leave.
use Rattle.std.proofs.Common.{◌≡◌, inl, inr, ⊎_elim, ℕ, zero, suc, ◌+◌, List, [], ◌∷◌, map, take, Option, Some, None, Result, Ok, Err, refl, sym, ap, ◌∙◌, subst, arith}
use Rattle.std.specs.List.{AllByRecursion}
use Rattle.ild_data.specs.Spell.{id_of}
use Rattle.ild_edges.specs.Store.{Moment, block_at}
use Rattle.ild_edges.specs.Told.{BothTold, IfTold}
use Rattle.ild_bulk.specs.Children.{Follows}
use Rattle.ild_edges.specs.Gained.{AreHeld}
use Rattle.ild_edges.specs.Among.{IsIn}
use Rattle.ild_edges.proofs.Among.{IsIn-contains, IsIn-of}
use Rattle.ild_bulk.specs.Putting.{GivesAll, PutsAll, StopsAfter}
use Rattle.ild_bulk.proofs.Childs.{held_among, puts-whole}
use Rattle.ild_bulk.proofs.Puts.{told-map}
use Rattle.ild_node_slots.specs.declared.fault.HamtFault.{HamtFault}
use Rattle.ild_node_slots.specs.declared.fault.HamtFault.TheVariants as F
use Rattle.ild_schema.specs.declared.number.Slot.{Slot}
use Rattle.ild_schema.specs.declared.row.Row.{Row}
use Rattle.ild_schema.specs.Value.{Value}
use Rattle.ild_typed.specs.Blocks.{nodes}
use Rattle.ild_typed_places.specs.Places.{places_in}
use Rattle.ild_bulk_places.proofs.Putting.{puts_leave}
use Rattle.ild_build_blocks.specs.Builds.{BuildAnswer, Builds, HasBlocks, PutsSome}
use Rattle.ild_build_blocks.specs.inside.Planned.{AreAlike, IsPlanned, IsPutFault, Plans, StoppedBy}
use Rattle.ild_build_blocks.specs.declared.fault.BuildFault.{BuildFault}
use Rattle.ild_build_blocks.specs.declared.fault.BuildFault.TheVariants as B
use Rattle.ild_build_blocks.specs.declared.planned.Planned.{Planned}
use Rattle.ild_build_blocks.proofs.Alikes.{all_among, among_alike, images_alike, many_alike}
use Rattle.ild_build_blocks.proofs.Leaving.{puts_none, told_same}

among_take : (b : List ℕ) (k : ℕ) (bs : List (List ℕ)) → IsIn b (take k bs) → IsIn b bs
among_take b zero bs is = absurd is
among_take b (suc k) [] is = absurd is
among_take b (suc k) (c ∷ bs) (inl e) = inl e
among_take b (suc k) (c ∷ bs) (inr is) = inr (among_take b k bs is)

told_if : {A : Type 0} (o q : Option A) (P : A → Type 0) → BothTold o q (λ a b. P b) → IfTold q P
told_if None None P t = tt
told_if None (Some b) P t = absurd t
told_if (Some a) None P t = absurd t
told_if (Some a) (Some b) P t = t

if_more : {A : Type 0} (o : Option A) (P Q : A → Type 0) → ((a : A) → P a → Q a) → IfTold o P → IfTold o Q
if_more None P Q f t = tt
if_more (Some a) P Q f t = f a t

-- why puts end
pub put_faults : (m n : Moment) (bs : List (List ℕ)) (e : HamtFault) → PutsAll m bs (Err e) n → IsPutFault e
put_faults m n bs F.Store puts = tt
put_faults m n bs (F.Clash id kept new) puts = tt
put_faults m n bs F.Memory puts = tt
put_faults m n bs F.Exhausted puts = absurd puts.answer
put_faults m n bs (F.Block id why) puts = absurd puts.answer
put_faults m n bs F.Size puts = absurd puts.answer
put_faults m n bs F.NoKey puts = absurd puts.answer

module _ (h : List ℕ → List ℕ) (rows : List Row) (slot : Slot) (v : Value) where
  steps : (m n : Moment) (bs : List (List ℕ)) (r : Result (Unit {0}) HamtFault) → AreAlike bs (nodes h rows slot v) → Follows [] bs → PutsAll m bs r n → PutsSome m (nodes h rows slot v) n
  steps m n bs r same follows puts = record {
    later = puts.later;
    gets = puts.gets;
    puts = let e = many_alike bs (nodes h rows slot v) same in let p = puts.puts in omega (arith, e, p);
    adds = told-map m.blocks n.blocks (StopsAfter bs puts.stops.0) _
        (λ was now s id b held. ⊎_elim (λ before. inl before) (λ among. inr (IsIn-contains b (nodes h rows slot v) (among_alike bs (nodes h rows slot v) same b (among_take b (puts.stops.0 + 1) bs (IsIn-of b (take (puts.stops.0 + 1) bs) among))))) (s.adds id b held)) puts.stops.1;
    children = puts-whole m n bs r follows puts;
  }

  all_held : (bs now : List (List ℕ)) → AreAlike bs (nodes h rows slot v) → AreHeld bs now → AllByRecursion (λ b. block_at now (id_of b) ≡ Some b) (nodes h rows slot v)
  all_held bs now same held =
      all_among (λ b. block_at now (id_of b) ≡ Some b) (nodes h rows slot v) (λ b is. held_among bs now b held (among_alike (nodes h rows slot v) bs (λ f. sym (same f)) b is))

  all_given : (bs was now : List (List ℕ)) → AreAlike bs (nodes h rows slot v) → GivesAll (map id_of bs) was now → GivesAll (map id_of (nodes h rows slot v)) was now
  all_given bs was now same gives j = (
    λ is. ⊎_elim (λ before. inl before) (λ among. inr (images_alike id_of bs (nodes h rows slot v) same j among)) ((gives j).0 is),
    λ either. (gives j).1 (⊎_elim (λ before. inl before) (λ among. inr (images_alike id_of (nodes h rows slot v) bs (λ f. sym (same f)) j among)) either),
  )

  pub done : (m n : Moment) (p : Planned) → IsPlanned h rows slot v p → PutsAll m p.nodes.items (Ok tt) n → Builds h rows slot v m (Ok p.block) n
  done m n p is puts = record {
    answer = record {
      has = is.has;
      spelled = is.spelled;
      held = told_if m.blocks n.blocks (λ held. AllByRecursion (λ b. block_at held (id_of b) ≡ Some b) (nodes h rows slot v))
          (told-map m.blocks n.blocks (λ was now. AreHeld p.nodes.items now) (λ was now. AllByRecursion (λ b. block_at now (id_of b) ≡ Some b) (nodes h rows slot v)) (λ was now t. all_held p.nodes.items now is.alike t) puts.answer.0);
      given = told-map m.given n.given (GivesAll (map id_of p.nodes.items)) (GivesAll (map id_of (nodes h rows slot v))) (λ was now t. all_given p.nodes.items was now is.alike t) puts.answer.1;
    };
    steps = steps m n p.nodes.items (Ok tt) is.alike is.follows puts;
    children = puts_leave (places_in h rows slot v) m n p.nodes.items (Ok tt) is.placed puts;
  }

  stop_answer : (m n : Moment) (bs : List (List ℕ)) (e : HamtFault) (r : BuildFault) → HasBlocks h rows slot v → AreAlike bs (nodes h rows slot v) → StoppedBy e r → PutsAll m bs (Err e) n → BuildAnswer h rows slot v m (Err r) n
  stop_answer m n bs F.Store r has same by puts = subst (λ (f : BuildFault). BuildAnswer h rows slot v m (Err f) n) (sym by) (puts.answer, has)
  stop_answer m n bs (F.Clash id kept new) r has same by puts =
      subst (λ (f : BuildFault). BuildAnswer h rows slot v m (Err f) n) (sym by.0) (
        record {
          held = if_more n.blocks (λ held. block_at held id.0 ≡ Some kept) (λ held. AllByRecursion (λ b. block_at held (id_of b) ≡ Some b) (kept ∷ [])) (λ held t. (ap (block_at held) puts.answer.1.0 ∙ t, tt)) puts.answer.1.3;
          among = IsIn-contains new (nodes h rows slot v) (among_alike bs (nodes h rows slot v) same new puts.answer.0);
          named = puts.answer.1.1;
          collide = record { kept_bytes = by.1; new_bytes = by.2; differ = puts.answer.1.2; one_id = puts.answer.1.0 ∙ sym puts.answer.1.1 };
        },
        has,
      )
  stop_answer m n bs F.Memory r has same by puts = subst (λ (f : BuildFault). BuildAnswer h rows slot v m (Err f) n) (sym by) (inr has)
  stop_answer m n bs F.Exhausted r has same by puts = absurd puts.answer
  stop_answer m n bs (F.Block id why) r has same by puts = absurd puts.answer
  stop_answer m n bs F.Size r has same by puts = absurd puts.answer
  stop_answer m n bs F.NoKey r has same by puts = absurd puts.answer

  pub stopped : (m n : Moment) (p : Planned) (e : HamtFault) (r : BuildFault) → IsPlanned h rows slot v p → StoppedBy e r → PutsAll m p.nodes.items (Err e) n → Builds h rows slot v m (Err r) n
  stopped m n p e r is by puts = record {
    answer = stop_answer m n p.nodes.items e r is.has is.alike by puts;
    steps = steps m n p.nodes.items (Err e) is.alike is.follows puts;
    children = puts_leave (places_in h rows slot v) m n p.nodes.items (Err e) is.placed puts;
  }

  none_answer : (m : Moment) (e : BuildFault) → Plans h rows slot v (Err e) → BuildAnswer h rows slot v m (Err e) m
  none_answer m B.Exhausted is = (is, refl)
  none_answer m B.Size is = (is, refl)
  none_answer m B.Memory is = inl refl
  none_answer m B.Store is = absurd is
  none_answer m (B.Clash id kept new) is = absurd is

  pub unplanned : (m : Moment) (e : BuildFault) → Plans h rows slot v (Err e) → Builds h rows slot v m (Err e) m
  unplanned m e is = record { answer = none_answer m e is; steps = puts_none m (nodes h rows slot v); children = told_same _ (λ a id b held. inl held) m.blocks }
