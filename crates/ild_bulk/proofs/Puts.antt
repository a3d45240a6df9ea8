-- Puts of blocks, one after another.
use Rattle.std.proofs.Common.{◌≡◌, ◌⊎◌, inl, inr, ⊎_elim, ℕ, zero, suc, ◌+◌, ◌≤◌, ◌<◌, Bool, true, false, List, [], ◌∷◌, ◌++◌, length, map, take, drop, get_or, Option, Some, None, Ok, Err, refl, sym, ap, ◌∙◌, subst, arith, append_assoc}
use Rattle.std.specs.Prelude.{Contains}
use Rattle.std.specs.Cmp.Lexicographic.{same_text as text_same, other_text}
use Rattle.std.proofs.lemmas.List.{take_more, take_all, take_at, length-append, map-append}
use Rattle.ild_data.specs.Key.{same_text}
use Rattle.ild_data.specs.Spell.{id_of}
use Rattle.ild_edges.specs.Store.{Moment, Later, Puts, Adds, IsFree, Keeps, Gives, block_at}
use Rattle.ild_edges.specs.Told.{BothTold}
use Rattle.ild_edges.specs.declared.error.EdgeErr.TheVariants as E
use Rattle.ild_edges.proofs.Later.{Later-refl, Later-trans}
use Rattle.ild_edges.specs.Gained.{AreHeld, CameFrom}
use Rattle.ild_edges.proofs.Among.{IsIn-left, IsIn-right, IsIn-append, IsIn-one, IsIn-contains, IsIn-of}
use Rattle.ild_edges.specs.Among.{IsIn}
use Rattle.ild_bulk.specs.Putting.{PutAnswer, PutsOne, PutsAnswer, PutsAll, StopsAfter, GivesAll}
use Rattle.ild_node_slots.specs.declared.fault.HamtFault.{HamtFault}
use Rattle.ild_node_slots.specs.declared.fault.HamtFault.TheVariants as F

-- ---- told contents

pub told-map : {A : Type 0} (o q : Option A) (P Q : A → A → Type 0) → ((a b : A) → P a b → Q a b) → BothTold o q P → BothTold o q Q
told-map None None P Q f t = tt
told-map None (Some b) P Q f t = absurd t
told-map (Some a) None P Q f t = absurd t
told-map (Some a) (Some b) P Q f t = f a b t

told-both : {A : Type 0} (o q : Option A) (P Q R : A → A → Type 0) → ((a b : A) → P a b → Q a b → R a b) → BothTold o q P → BothTold o q Q → BothTold o q R
told-both None None P Q R f t u = tt
told-both None (Some b) P Q R f t u = absurd t
told-both (Some a) None P Q R f t u = absurd t
told-both (Some a) (Some b) P Q R f t u = f a b t u

told-then : {A : Type 0} (o q r : Option A) (P Q R : A → A → Type 0) → ((a b c : A) → P a b → Q b c → R a c) → BothTold o q P → BothTold q r Q → BothTold o r R
told-then None None None P Q R f t u = tt
told-then None None (Some c) P Q R f t u = absurd u
told-then None (Some b) r P Q R f t u = absurd t
told-then (Some a) None r P Q R f t u = absurd t
told-then (Some a) (Some b) None P Q R f t u = absurd u
told-then (Some a) (Some b) (Some c) P Q R f t u = f a b c t u

pub told-same : {A : Type 0} (o q : Option A) (P : A → A → Type 0) → q ≡ o → ((a : A) → P a a) → BothTold o q P
told-same None None P is f = tt
told-same None (Some b) P is f = absurd cc
told-same (Some a) None P is f = absurd cc
told-same (Some a) (Some b) P is f = let same : a ≡ b = cc in subst (λ c. P a c) same (f a)

-- ---- one put

one-by : (b : List ℕ) (was now : List (List ℕ)) (id x : List ℕ) (c : Bool) → c ≡ same_text (id_of b) id → Adds b was now → block_at now id ≡ Some x → (block_at was id ≡ Some x) ⊎ Contains (b ∷ []) x
one-by b was now id x true is adds held =
    let at : id_of b ≡ id = text_same (id_of b) id is in
    let same : Some x ≡ Some b = sym held ∙ ap (block_at now) (sym at) ∙ adds.held in
    let is_b : x ≡ b = cc in
    inr (IsIn-contains x (b ∷ []) (inl is_b))
one-by b was now id x false is adds held = inl (sym (adds.others id (other_text (id_of b) id is)) ∙ held)

adds-only : (b : List ℕ) (was now : List (List ℕ)) → Adds b was now → CameFrom (b ∷ []) was now
adds-only b was now adds id x held = one-by b was now id x (same_text (id_of b) id) refl adds held

nothing-added : (b : List ℕ) (m n : Option (List (List ℕ))) → n ≡ m → BothTold m n (CameFrom (b ∷ []))
nothing-added b m n is = told-same m n (CameFrom (b ∷ [])) is (λ a id x held. inl held)

pub put-ok : (m n : Moment) (b s : List ℕ) → s ≡ b → Puts m s (Ok None) n → PutsOne m b (Ok tt) n
put-ok m n b s is puts =
    let here : Puts m b (Ok None) n = subst (λ (x : List ℕ). Puts m x (Ok None) n) is puts in
    record {
      answer = (told-map m.blocks n.blocks (λ was now. IsFree b was × Adds b was now) (λ was now. block_at now (id_of b) ≡ Some b) (λ was now p. p.1.held) here.answer.0, here.answer.1);
      later = here.later;
      gets = here.gets;
      puts = let up = here.puts in omega arith;
      adds = told-map m.blocks n.blocks (λ was now. IsFree b was × Adds b was now) (CameFrom (b ∷ [])) (λ was now p. adds-only b was now p.1) here.answer.0;
    }

pub put-failed : (m n : Moment) (b s : List ℕ) → s ≡ b → Puts m s (Err E.Failed) n → PutsOne m b (Err F.Store) n
put-failed m n b s is puts =
    let here : Puts m b (Err E.Failed) n = subst (λ (x : List ℕ). Puts m x (Err E.Failed) n) is puts in
    record {
      answer = here.answer.0;
      later = here.later;
      gets = here.gets;
      puts = let up = here.puts in omega arith;
      adds = ⊎_elim (λ same. nothing-added b m.blocks n.blocks same)
          (λ t. told-map m.blocks n.blocks (λ was now. (block_at was (id_of b) ≡ None) × Adds b was now) (CameFrom (b ∷ [])) (λ was now p. adds-only b was now p.1) t) here.answer.1;
    }

-- ---- a front of the blocks

pub record PutFront (m : Moment) (bs : List (List ℕ)) (n : Moment) : Type 0 where
  pub held : BothTold m.blocks n.blocks (λ was now. AreHeld bs now × CameFrom bs was now)
  pub given : BothTold m.given n.given (GivesAll (map id_of bs))
  pub later : Later m n
  pub gets : n.gets ≡ m.gets
  pub puts : n.puts ≤ m.puts + length bs

held-keeps : (bs was now : List (List ℕ)) → AreHeld bs was → Keeps was now → AreHeld bs now
held-keeps [] was now held keeps = tt
held-keeps (b ∷ bs) was now held keeps = (keeps (id_of b) b held.0, held-keeps bs was now held.1 keeps)

held-push : (bs now : List (List ℕ)) (b : List ℕ) → AreHeld bs now → block_at now (id_of b) ≡ Some b → AreHeld (bs ++ b ∷ []) now
held-push [] now b held is = (is, tt)
held-push (c ∷ bs) now b held is = (held.0, held-push bs now b held.1 is)

adds-push : (bs : List (List ℕ)) (b : List ℕ) (was mid now : List (List ℕ)) → CameFrom bs was mid → CameFrom (b ∷ []) mid now → CameFrom (bs ++ b ∷ []) was now
adds-push bs b was mid now first second id x held =
    ⊎_elim (λ before. ⊎_elim (λ was_held. inl was_held) (λ among. inr (IsIn-contains x (bs ++ b ∷ []) (IsIn-left x bs (b ∷ []) (IsIn-of x bs among)))) (first id x before))
    (λ here. inr (IsIn-contains x (bs ++ b ∷ []) (IsIn-right x bs (b ∷ []) (IsIn-of x (b ∷ []) here)))) (second id x held)

gives-none : (ids : List (List ℕ)) → GivesAll [] ids ids
gives-none ids j = (λ is. inl is, λ both. ⊎_elim (λ was. was) (λ none. absurd none) both)

among-last : (j id : List ℕ) (ids : List (List ℕ)) → IsIn j (ids ++ id ∷ []) → IsIn j ids ⊎ (j ≡ id)
among-last j id ids is = ⊎_elim (λ before. inl before) (λ last. inr (IsIn-one j id last)) (IsIn-append j ids (id ∷ []) is)

gives-push : (ids : List (List ℕ)) (id : List ℕ) (was mid now : List (List ℕ)) → GivesAll ids was mid → Gives id mid now → GivesAll (ids ++ id ∷ []) was now
gives-push ids id was mid now first second j = (
  (λ is. ⊎_elim (λ before. ⊎_elim (λ w. inl w) (λ among. inr (IsIn-left j ids (id ∷ []) among)) ((first j).0 before)) (λ last. inr (IsIn-right j ids (id ∷ []) (inl last))) ((second j).0 is)),
  (λ both. (second j).1 (⊎_elim (λ w. inl ((first j).1 (inl w))) (λ among. ⊎_elim (λ a. inl ((first j).1 (inr a))) (λ last. inr last) (among-last j id ids among)) both)),
)

pub front-none : (m : Moment) → PutFront m [] m
front-none m = record {
  held = told-same m.blocks m.blocks (λ was now. AreHeld [] now × CameFrom [] was now) refl (λ a. (tt, λ id x held. inl held));
  given = told-same m.given m.given (GivesAll []) refl (λ a. gives-none a);
  later = Later-refl m;
  gets = refl;
  puts = omega arith;
}

pub front-more : (m k n : Moment) (bs : List (List ℕ)) (b : List ℕ) → PutFront m bs k → PutsOne k b (Ok tt) n → PutFront m (bs ++ b ∷ []) n
front-more m k n bs b front one = record {
  held = told-then m.blocks k.blocks n.blocks (λ was now. AreHeld bs now × CameFrom bs was now)
      (λ was now. (Keeps was now × (block_at now (id_of b) ≡ Some b)) × CameFrom (b ∷ []) was now) (λ was now. AreHeld (bs ++ b ∷ []) now × CameFrom (bs ++ b ∷ []) was now)
      (λ was mid now p q. (held-push bs now b (held-keeps bs mid now p.0 q.0.0) q.0.1, adds-push bs b was mid now p.1 q.1)) front.held
      (told-both k.blocks n.blocks (λ was now. Keeps was now × (block_at now (id_of b) ≡ Some b)) (CameFrom (b ∷ [])) (λ was now. (Keeps was now × (block_at now (id_of b) ≡ Some b)) × CameFrom (b ∷ []) was now)
      (λ was now p q. (p, q))
      (told-both k.blocks n.blocks Keeps (λ was now. block_at now (id_of b) ≡ Some b) (λ was now. Keeps was now × (block_at now (id_of b) ≡ Some b)) (λ was now p q. (p, q)) one.later.keeps one.answer.0) one.adds);
  given = subst (λ (ids : List (List ℕ)). BothTold m.given n.given (GivesAll ids)) (sym (map-append id_of bs (b ∷ [])))
      (told-then m.given k.given n.given (GivesAll (map id_of bs)) (Gives (id_of b)) (GivesAll (map id_of bs ++ id_of b ∷ [])) (λ was mid now p q. gives-push (map id_of bs) (id_of b) was mid now p q) front.given one.answer.1);
  later = Later-trans m k n front.later one.later;
  gets = one.gets ∙ front.gets;
  puts = let a = front.puts in let c = one.puts in omega (arith, length-append bs (b ∷ []));
}

-- ---- how it ends

pub front-done : (m n : Moment) (bs : List (List ℕ)) → PutFront m bs n → PutsAll m bs (Ok tt) n
front-done m n bs front = record {
  answer = (told-map m.blocks n.blocks (λ was now. AreHeld bs now × CameFrom bs was now) (λ was now. AreHeld bs now) (λ was now p. p.0) front.held, front.given);
  later = front.later;
  gets = front.gets;
  puts = front.puts;
  stops = (
    length bs,
    told-map m.blocks n.blocks (λ was now. AreHeld bs now × CameFrom bs was now) (StopsAfter bs (length bs))
        (λ was now p. record {
          held = subst (λ (cs : List (List ℕ)). AreHeld cs now) (sym (take_all (length bs) bs (omega arith))) p.0;
          adds = subst (λ (cs : List (List ℕ)). CameFrom cs was now) (sym (take_all (length bs + 1) bs (omega arith))) p.1;
        }) front.held,
  );
}

stopped-answer : (m k n : Moment) (bs : List (List ℕ)) (b : List ℕ) (e : HamtFault) → Later m k → IsIn b bs → PutAnswer k b (Err e) n → PutsAnswer m bs (Err e) n
stopped-answer m k n bs b F.Exhausted later among is = absurd is
stopped-answer m k n bs b (F.Block id why) later among is = absurd is
stopped-answer m k n bs b F.Store later among is = let up = later.faults in omega (arith, is)
stopped-answer m k n bs b (F.Clash id kept new) later among is = (subst (λ (x : List ℕ). IsIn x bs) (sym is.0) among, is.1)
stopped-answer m k n bs b F.Size later among is = absurd is
stopped-answer m k n bs b F.NoKey later among is = absurd is
stopped-answer m k n bs b F.Memory later among is = tt

pub front-stopped : (m k n : Moment) (bs xs rest : List (List ℕ)) (b : List ℕ) (e : HamtFault) → PutFront m xs k → PutsOne k b (Err e) n → bs ≡ (xs ++ b ∷ []) ++ rest → PutsAll m bs (Err e) n
front-stopped m k n bs xs rest b e front one is =
    let long : length (xs ++ b ∷ []) ≡ length xs + 1 = length-append xs (b ∷ []) in
    let first : take (length xs) bs ≡ xs = ap (take (length xs)) (is ∙ append_assoc xs (b ∷ []) rest) ∙ take_at xs (b ∷ rest) (length xs) refl in
    let second : take (length xs + 1) bs ≡ xs ++ b ∷ [] = ap (take (length xs + 1)) is ∙ take_at (xs ++ b ∷ []) rest (length xs + 1) long in
    record {
      answer = stopped-answer m k n bs b e front.later
          (subst (λ (cs : List (List ℕ)). IsIn b cs) (sym is) (IsIn-left b (xs ++ b ∷ []) rest (IsIn-right b xs (b ∷ []) (inl refl)))) one.answer;
      later = Later-trans m k n front.later one.later;
      gets = one.gets ∙ front.gets;
      puts = let a = front.puts in let c = one.puts in omega (arith, long, ap length is, length-append (xs ++ b ∷ []) rest);
      stops = (
        length xs,
        told-then m.blocks k.blocks n.blocks (λ was now. AreHeld xs now × CameFrom xs was now) (λ was now. Keeps was now × CameFrom (b ∷ []) was now) (StopsAfter bs (length xs))
            (λ was mid now p q. record {
              held = subst (λ (cs : List (List ℕ)). AreHeld cs now) (sym first) (held-keeps xs mid now p.0 q.0);
              adds = subst (λ (cs : List (List ℕ)). CameFrom cs was now) (sym second) (adds-push xs b was mid now p.1 q.1);
            }) front.held
            (told-both k.blocks n.blocks Keeps (CameFrom (b ∷ [])) (λ was now. Keeps was now × CameFrom (b ∷ []) was now) (λ was now p q. (p, q)) one.later.keeps one.adds),
      );
    }

parted_at : (bs : List (List ℕ)) (i : ℕ) (d : List ℕ) → i < length bs → bs ≡ take i bs ++ get_or bs i d ∷ drop (suc i) bs
parted_at [] i d lt = absurd (omega arith)
parted_at (b ∷ bs) zero d lt = refl
parted_at (b ∷ bs) (suc i) d lt = ap (λ cs. b ∷ cs) (parted_at bs i d (omega arith))

pub parts-at : (bs : List (List ℕ)) (i : ℕ) (b : List ℕ) → i < length bs → b ≡ get_or bs i b → bs ≡ (take i bs ++ b ∷ []) ++ drop (suc i) bs
parts-at bs i b lt is = parted_at bs i b lt ∙ ap (λ c. take i bs ++ c ∷ drop (suc i) bs) (sym is) ∙ sym (append_assoc (take i bs) (b ∷ []) (drop (suc i) bs))

pub front-step : (m k n : Moment) (bs : List (List ℕ)) (i : ℕ) (b : List ℕ) → PutFront m (take i bs) k → PutsOne k b (Ok tt) n → i < length bs → b ≡ get_or bs i b → PutFront m (take (i + 1) bs) n
front-step m k n bs i b front one lt is =
    subst (λ (cs : List (List ℕ)). PutFront m cs n) (sym (take_more bs i b lt ∙ ap (λ c. take i bs ++ c ∷ []) (sym is))) (front-more m k n (take i bs) b front one)
