-- Two blocks are put one behind the other.
use Rattle.std.proofs.Common.{◌≡◌, ◌⊎◌, ℕ, List, [], ◌∷◌, Option, Some, None, sym, ◌∙◌, subst, inl, inr, arith}
use Rattle.std.specs.Prelude.{Contains, Result, Ok, Err}
use Rattle.std.proofs.lemmas.List.Elements.{Contains-append_left, Contains-append_right, Contains-push_cases}
use Rattle.ild_bulk.specs.Putting as K
use Rattle.ild_data.specs.Spell.{id_of}
use Rattle.ild_edges.proofs.Later.{Later-trans}
use Rattle.ild_edges.specs.Gained.{AreHeld, CameFrom}
use Rattle.ild_edges.specs.Store.{Keeps, Later, Moment, block_at}
use Rattle.ild_edges.specs.Told.{BothTold, IfTold}
use Rattle.ild_node_slots.specs.declared.fault.HamtFault.{HamtFault}
use Rattle.ild_node_slots.specs.declared.fault.HamtFault.TheVariants as H
use Rattle.ild_open_parts.proofs.Breaking.{rose_later}
use Rattle.ild_named_root.specs.declared.fault.NameFault.{NameFault}
use Rattle.ild_named_root.specs.declared.fault.NameFault.TheVariants as F
use Rattle.ild_named_root.specs.inside.Writing.{InTurn, IsPutFault, PutAnswer, PutsBoth, PutsOne, put_fault}

-- ---- what is told at one moment after another

pub told_chain : (P Q R : List (List ℕ) → List (List ℕ) → Type 0) (a b c : Option (List (List ℕ))) → ((x y z : List (List ℕ)) → P x y → Q y z → R x z) → BothTold a b P → BothTold b c Q → BothTold a c R
told_chain P Q R None None None f p q = tt
told_chain P Q R None None (Some z) f p q = absurd q
told_chain P Q R None (Some y) c f p q = absurd p
told_chain P Q R (Some x) None c f p q = absurd p
told_chain P Q R (Some x) (Some y) None f p q = absurd q
told_chain P Q R (Some x) (Some y) (Some z) f p q = f x y z p q

pub told_more : (P R : List (List ℕ) → List (List ℕ) → Type 0) (a b : Option (List (List ℕ))) → ((x y : List (List ℕ)) → P x y → R x y) → BothTold a b P → BothTold a b R
told_more P R None None f p = tt
told_more P R None (Some y) f p = absurd p
told_more P R (Some x) None f p = absurd p
told_more P R (Some x) (Some y) f p = f x y p

-- of the content now
told_now : (P : List (List ℕ) → List (List ℕ) → Type 0) (R : List (List ℕ) → Type 0) (a b : Option (List (List ℕ))) → ((x y : List (List ℕ)) → P x y → R y) → BothTold a b P → IfTold b R
told_now P R None None f p = tt
told_now P R None (Some y) f p = absurd p
told_now P R (Some x) None f p = absurd p
told_now P R (Some x) (Some y) f p = f x y p

told_with : (P Q : List (List ℕ) → List (List ℕ) → Type 0) (R : List (List ℕ) → Type 0) (a b : Option (List (List ℕ))) → ((x y : List (List ℕ)) → P x y → R y → Q x y) → BothTold a b P → IfTold b R → BothTold a b Q
told_with P Q R None None f p r = tt
told_with P Q R None (Some y) f p r = absurd p
told_with P Q R (Some x) None f p r = absurd p
told_with P Q R (Some x) (Some y) f p r = f x y p r

told_keeps : (R S : List (List ℕ) → Type 0) (a b : Option (List (List ℕ))) → ((x y : List (List ℕ)) → Keeps x y → R x → S y) → BothTold a b Keeps → IfTold a R → IfTold b S
told_keeps R S None None f p r = tt
told_keeps R S None (Some y) f p r = absurd p
told_keeps R S (Some x) None f p r = absurd p
told_keeps R S (Some x) (Some y) f p r = f x y p r

if_both : (R S T : List (List ℕ) → Type 0) (a : Option (List (List ℕ))) → ((x : List (List ℕ)) → R x → S x → T x) → IfTold a R → IfTold a S → IfTold a T
if_both R S T None f r s = tt
if_both R S T (Some x) f r s = f x r s

-- ---- one

fault_is : (m n : Moment) (b : List ℕ) (e : HamtFault) → K.PutAnswer m b (Err e) n → IsPutFault e
fault_is m n b H.Store x = tt
fault_is m n b (H.Clash id kept new) x = tt
fault_is m n b H.Memory x = tt
fault_is m n b H.Exhausted x = absurd x
fault_is m n b (H.Block id why) x = absurd x
fault_is m n b H.Size x = absurd x
fault_is m n b H.NoKey x = absurd x

pub one_fault : (m n : Moment) (b : List ℕ) (e : HamtFault) → K.PutsOne m b (Err e) n → IsPutFault e
one_fault m n b e x = fault_is m n b e x.answer

put_answer : (m n : Moment) (b : List ℕ) (e : HamtFault) → K.PutAnswer m b (Err e) n → PutAnswer m (b ∷ []) (Err (put_fault e)) n
put_answer m n b H.Store x = x
put_answer m n b (H.Clash id kept new) x = (inl x.0, x.1)
put_answer m n b H.Memory x = tt
put_answer m n b H.Exhausted x = absurd x
put_answer m n b (H.Block id why) x = absurd x
put_answer m n b H.Size x = absurd x
put_answer m n b H.NoKey x = absurd x

pub one_stopped : (m n : Moment) (b : List ℕ) (e : HamtFault) → K.PutsOne m b (Err e) n → PutsOne m b (Err (put_fault e)) n
one_stopped m n b e x = record { answer = put_answer m n b e x.answer; later = x.later; gets = x.gets; puts = x.puts; adds = x.adds }

pub one_put : (m n : Moment) (b : List ℕ) → K.PutsOne m b (Ok tt) n → PutsOne m b (Ok tt) n
one_put m n b x = record {
  answer = told_now (λ was now. block_at now (id_of b) ≡ Some b) (λ held. AreHeld (b ∷ []) held) m.blocks n.blocks (λ was now held. (held, tt)) x.answer.0;
  later = x.later;
  gets = x.gets;
  puts = x.puts;
  adds = x.adds;
}

-- ---- one behind the other

only_one : (a b : List ℕ) → Contains (a ∷ []) b → a ≡ b
only_one a b among = by (Contains-push_cases [] a b among)
  where
    by : Contains [] b ⊎ (a ≡ b) → a ≡ b
    by (inl none) = let less = none.1 in absurd (omega (arith, less))
    by (inr same) = same

-- the first alone
module _ (text root : List ℕ) where
  abbrev Both : List (List ℕ)
  Both = text ∷ root ∷ []

  came_first : (was now : List (List ℕ)) → CameFrom (text ∷ []) was now → CameFrom Both was now
  came_first was now came id b held = by (came id b held)
    where
      by : (block_at was id ≡ Some b) ⊎ Contains (text ∷ []) b → (block_at was id ≡ Some b) ⊎ Contains Both b
      by (inl old) = inl old
      by (inr new) = inr (Contains-append_left (text ∷ []) (root ∷ []) b new)

  turn_first : (was now : List (List ℕ)) → CameFrom (text ∷ []) was now → InTurn text root was now
  turn_first was now came held = by (came (id_of root) root held)
    where
      by : (block_at was (id_of root) ≡ Some root) ⊎ Contains (text ∷ []) root → (block_at was (id_of root) ≡ Some root) ⊎ (block_at now (id_of text) ≡ Some text)
      by (inl old) = inl old
      by (inr new) = inr (subst (λ (c : List ℕ). block_at now (id_of c) ≡ Some c) (sym (only_one text root new)) held)

  came_second : (was then now : List (List ℕ)) → CameFrom (text ∷ []) was then → CameFrom (root ∷ []) then now → CameFrom Both was now
  came_second was then now first second id b held = by (second id b held)
    where
      by : (block_at then id ≡ Some b) ⊎ Contains (root ∷ []) b → (block_at was id ≡ Some b) ⊎ Contains Both b
      by (inl old) = came_first was then first id b old
      by (inr new) = inr (Contains-append_right (text ∷ []) (root ∷ []) b new)

  stopped_answer : (m n : Moment) (e : NameFault) → PutAnswer m (text ∷ []) (Err e) n → PutAnswer m Both (Err e) n
  stopped_answer m n F.Store x = x
  stopped_answer m n (F.Clash id kept new) (inl same, clash) = (inl same, clash)
  stopped_answer m n (F.Clash id kept new) (inr none, clash) = absurd none
  stopped_answer m n F.Memory x = tt
  stopped_answer m n F.Depth x = absurd x
  stopped_answer m n F.Size x = absurd x
  stopped_answer m n (F.Block id why) x = absurd x

  pub first_stopped : (m n : Moment) (e : NameFault) → PutsOne m text (Err e) n → PutsBoth m text root (Err e) n
  first_stopped m n e x = record {
    answer = stopped_answer m n e x.answer;
    later = x.later;
    gets = x.gets;
    puts = let most = x.puts in omega (arith, most);
    adds = told_more (CameFrom (text ∷ [])) (CameFrom Both) m.blocks n.blocks came_first x.adds;
    order = told_more (CameFrom (text ∷ [])) (InTurn text root) m.blocks n.blocks turn_first x.adds;
  }

  -- ---- and then the second

  module _ (m k n : Moment) (x : PutsOne m text (Ok tt) k) where
    text_now : Later k n → IfTold n.blocks (λ held. AreHeld (text ∷ []) held)
    text_now later = told_keeps (λ held. AreHeld (text ∷ []) held) (λ held. AreHeld (text ∷ []) held) k.blocks n.blocks (λ was now keeps held. (keeps (id_of text) text held.0, tt)) later.keeps x.answer

    second_answer : (r : Result (Unit {0}) NameFault) → Later k n → PutAnswer k (root ∷ []) r n → PutAnswer m Both r n
    second_answer (Ok u) later y =
        if_both (λ held. AreHeld (text ∷ []) held) (λ held. AreHeld (root ∷ []) held) (λ held. AreHeld Both held) n.blocks (λ held a b. (a.0, (b.0, tt))) (text_now later) y
    second_answer (Err F.Store) later y = rose_later m.faults k.faults n.faults x.later.faults y
    second_answer (Err (F.Clash id kept new)) later (among, clash) = (inr among, clash)
    second_answer (Err F.Memory) later y = tt
    second_answer (Err F.Depth) later y = absurd y
    second_answer (Err F.Size) later y = absurd y
    second_answer (Err (F.Block id why)) later y = absurd y

    pub second_put : (r : Result (Unit {0}) NameFault) → PutsOne k root r n → PutsBoth m text root r n
    second_put r y = record {
      answer = second_answer r y.later y.answer;
      later = Later-trans m k n x.later y.later;
      gets = y.gets ∙ x.gets;
      puts = let one = x.puts in let two = y.puts in omega (arith, one, two);
      adds = told_chain (CameFrom (text ∷ [])) (CameFrom (root ∷ [])) (CameFrom Both) m.blocks k.blocks n.blocks came_second x.adds y.adds;
      order = told_with Keeps (InTurn text root) (λ held. AreHeld (text ∷ []) held) m.blocks n.blocks (λ was now keeps held came. inr held.0) (Later-trans m k n x.later y.later).keeps (text_now y.later);
    }
