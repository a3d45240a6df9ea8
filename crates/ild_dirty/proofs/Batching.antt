-- What calls of a batch say, by what it holds of its own and what the store beneath it answers.
use Rattle.std.proofs.Common.{◌⊎◌, ◌≡◌, ◌≢◌, inl, inr, ⊎_elim, ℕ, zero, suc, ◌+◌, ◌-◌, ◌^◌, ◌<◌, ◌≤◌, List, [], ◌∷◌, ◌++◌, length, map, Bool, true, false, cond, Option, Some, None, Result, Ok, Err, refl, sym, ap, subst, ◌∙◌, arith}
use Rattle.std.proofs.lemmas.List.{map-append, length-append}
use Rattle.std.specs.Prelude.{option_map, Contains, slice_get}
use Rattle.std.specs.Option.{option_or}
use Rattle.std.proofs.lemmas.Option.{same_Some, none-some}
use Rattle.std.proofs.lemmas.List.Elements.{Contains-append_left, Contains-append_right, Contains-append_cases}
use Rattle.ild_data.specs.Key.{same_text}
use Rattle.ild_data.specs.Spell.{id_of}
use Rattle.ild_edges.specs.Count.{bumped}
use Rattle.ild_edges.specs.Told.{IfTold, BothTold}
use Rattle.ild_edges.specs.Store.{Moment, StaysBelow, asked_over, Later, Gets, GetsAnswer, Puts, Adds, IsFree, Keeps, Gives, block_at}
use Rattle.ild_edges.specs.declared.error.EdgeErr.{EdgeErr}
use Rattle.ild_edges.specs.declared.error.EdgeErr.TheVariants as E
use Rattle.ild_edges.proofs.Held.{block_at_id, Adds-push, Adds-held, keeps_adds}
use Rattle.ild_edges.proofs.Later.{Later-refl}
use Rattle.ild_dirty.specs.Batch.{batch_moment}

-- ---- blocks before others

first_or : (t : Bool) (b : List ℕ) (x y : Option (List ℕ)) → cond t (Some b) (option_or x y) ≡ option_or (cond t (Some b) x) y
first_or true b x y = refl
first_or false b x y = refl

-- of two lists the first is looked at first
pub block_at-append : (xs ys : List (List ℕ)) (id : List ℕ) → block_at (xs ++ ys) id ≡ option_or (block_at xs id) (block_at ys id)
block_at-append [] ys id = refl
block_at-append (x ∷ xs) ys id = ap (cond (same_text (id_of x) id) (Some x)) (block_at-append xs ys id) ∙ first_or (same_text (id_of x) id) x (block_at xs id) (block_at ys id)

pub own_first : (own held : List (List ℕ)) (id b : List ℕ) → block_at own id ≡ Some b → block_at (own ++ held) id ≡ Some b
own_first own held id b is = block_at-append own held id ∙ ap (λ o. option_or o (block_at held id)) is

pub then_held : (own held : List (List ℕ)) (id : List ℕ) → block_at own id ≡ None → block_at (own ++ held) id ≡ block_at held id
then_held own held id none = block_at-append own held id ∙ ap (λ o. option_or o (block_at held id)) none

found_among : (t : Bool) (id b x : List ℕ) (xs : List (List ℕ)) → cond t (Some x) (block_at xs id) ≡ Some b → (block_at xs id ≡ Some b → Contains xs b) → Contains (x ∷ xs) b
found_among true id b x xs is rest = (0, omega arith, same_Some x b is)
found_among false id b x xs is rest = let more : Contains xs b = rest is in (suc more.0, omega (arith, more.1), more.2)

-- a block that is found is one of them
pub block_at-among : (xs : List (List ℕ)) (id b : List ℕ) → block_at xs id ≡ Some b → Contains xs b
block_at-among [] id b is = absurd (none-some b is)
block_at-among (x ∷ xs) id b is = found_among (same_text (id_of x) id) id b x xs is (block_at-among xs id b)

pub Contains-map : (f : List ℕ → List ℕ) (xs : List (List ℕ)) (x : List ℕ) → Contains xs x → Contains (map f xs) (f x)
Contains-map f [] x is = absurd (omega (arith, is.1))
Contains-map f (y ∷ ys) x (zero, lt, is) = (0, omega arith, ap f is)
Contains-map f (y ∷ ys) x (suc k, lt, is) = let more : Contains (map f ys) (f x) = Contains-map f ys x (k, omega (arith, lt), is) in (suc more.0, omega (arith, more.1), more.2)

pub Contains-one : (x y : List ℕ) → Contains (x ∷ []) y → y ≡ x
Contains-one x y (zero, lt, is) = sym is
Contains-one x y (suc k, lt, is) = absurd (omega (arith, lt))

-- ---- what is told, through what the batch holds of its own

over : {A : Type 0} (f g : A → A) (P : A → A → Type 0) (a b : Option A) → BothTold a b (λ x y. P (f x) (g y)) → BothTold (option_map f a) (option_map g b) P
over f g P None None p = tt
over f g P (Some x) (Some y) p = p
over f g P None (Some y) p = absurd p
over f g P (Some x) None p = absurd p

both : {A : Type 0} (P : A → A → Type 0) (a b : Option A) → b ≡ a → ((x : A) → P x x) → BothTold a b P
both {A} P None b same each = subst (λ (o : Option A). BothTold None o P) (sym same) tt
both {A} P (Some x) b same each = subst (λ (o : Option A). BothTold (Some x) o P) (sym same) (each x)

if_over : {A : Type 0} (f : A → A) (P Q : A → Type 0) (a : Option A) → IfTold a Q → ((x : A) → Q x → P (f x)) → IfTold (option_map f a) P
if_over f P Q None q each = tt
if_over f P Q (Some x) q each = each x q

if_all : {A : Type 0} (f : A → A) (P : A → Type 0) (a : Option A) → ((x : A) → P (f x)) → IfTold (option_map f a) P
if_all f P None each = tt
if_all f P (Some x) each = each x

both_if : {A : Type 0} (P : A → A → Type 0) (Q : A → Type 0) (a b : Option A) → b ≡ a → IfTold a Q → ((x : A) → Q x → P x x) → BothTold a b P
both_if {A} P Q None b same q each = subst (λ (o : Option A). BothTold None o P) (sym same) tt
both_if {A} P Q (Some x) b same q each = subst (λ (o : Option A). BothTold (Some x) o P) (sym same) (each x q)

-- ---- later moments

keeps_beneath : (own : List (List ℕ)) (was now : List (List ℕ)) → Keeps was now → Keeps (own ++ was) (own ++ now)
keeps_beneath own was now keeps id b held = by_own (block_at own id) refl where
  by_own : (o : Option (List ℕ)) → o ≡ block_at own id → block_at (own ++ now) id ≡ Some b
  by_own None is = then_held own now id (sym is) ∙ keeps id b (sym (then_held own was id (sym is)) ∙ held)
  by_own (Some c) is = own_first own now id c (sym is) ∙ sym (own_first own was id c (sym is)) ∙ held

beneath_told : (own : List (List ℕ)) (a b : Option (List (List ℕ))) → BothTold a b Keeps → BothTold (option_map (λ held. own ++ held) a) (option_map (λ held. own ++ held) b) Keeps
beneath_told own None None p = tt
beneath_told own (Some x) (Some y) p = keeps_beneath own x y p
beneath_told own None (Some y) p = absurd p
beneath_told own (Some x) None p = absurd p

-- what is beneath stays
abbrev pub BelowStays : Moment → Moment → Type 0
BelowStays m n = (i : ℕ) → BothTold (slice_get m.beneath i) (slice_get n.beneath i) (StaysBelow (asked_over m i) (asked_over n i))

-- the store itself, and what is beneath that
below_all : (x : ℕ × ℕ) (m n : Moment) (was now : List (List ℕ)) (g h p q : ℕ) → Later m n → BothTold (slice_get (batch_moment m was g p x).beneath 0) (slice_get (batch_moment n now h q x).beneath 0) (StaysBelow (g, p) (h, q)) → BelowStays (batch_moment m was g p x) (batch_moment n now h q x)
below_all x m n was now g h p q later first zero = first
below_all x m n was now g h p q later first (suc zero) = later.beneath zero
below_all x m n was now g h p q later first (suc (suc i)) = later.beneath (suc i)

-- the store beneath was not asked
below_still : (x : ℕ × ℕ) (m : Moment) (own : List (List ℕ)) (g h p q : ℕ) → g ≤ h → p ≤ q → BelowStays (batch_moment m own g p x) (batch_moment m own h q x)
below_still x m own g h p q more_gets more_puts = below_all x m m own own g h p q (Later-refl m)
    (record { names = refl; blocks = refl; given = refl; puts = refl; own = λ few. omega (arith, more_puts); more = omega arith; most = omega arith; gets = λ few_gets few_puts. omega (arith, more_gets, more_puts) })

-- it was asked once, for one call of the batch
below_asked : (x : ℕ × ℕ) (m n : Moment) (was now : List (List ℕ)) (g h p q : ℕ) (id : List ℕ) (r : Result (Option (List ℕ)) EdgeErr) → Gets m id r n → (((h ≡ bumped g) × (q ≡ p)) ⊎ ((h ≡ g) × (q ≡ bumped p))) → (q < 2 ^ 64 - 1 → length now + p ≤ length was + q) → BelowStays (batch_moment m was g p x) (batch_moment n now h q x)
below_asked x m n was now g h p q id r asked (inl count) grown = below_all x m n was now g h p q asked.later
    (record { names = refl; blocks = asked.blocks; given = asked.given; puts = asked.puts; own = grown; more = asked.later.gets; most = omega (arith, asked.gets); gets = λ few_gets few_puts. omega (arith, few_gets, few_puts, count.0, count.1, asked.gets) })
below_asked x m n was now g h p q id r asked (inr count) grown = below_all x m n was now g h p q asked.later
    (record { names = refl; blocks = asked.blocks; given = asked.given; puts = asked.puts; own = grown; more = asked.later.gets; most = omega (arith, asked.gets); gets = λ few_gets few_puts. omega (arith, few_gets, few_puts, count.0, count.1, asked.gets) })

own_grown : (own : List (List ℕ)) (b : List ℕ) (p q : ℕ) → q ≡ bumped p → q < 2 ^ 64 - 1 → length (own ++ b ∷ []) + p ≤ length own + q
own_grown own b p q count few = omega (arith, count, few, length-append own (b ∷ []))

-- the batch keeps its own blocks
pub later_kept : (x : ℕ × ℕ) (m n : Moment) (own : List (List ℕ)) (g h p q : ℕ) → Later m n → g ≤ h → p ≤ q → BelowStays (batch_moment m own g p x) (batch_moment n own h q x) → Later (batch_moment m own g p x) (batch_moment n own h q x)
later_kept x m n own g h p q later more_gets more_puts below = record {
  keeps = beneath_told own m.blocks n.blocks later.keeps;
  given = λ id is. is;
  gets = more_gets;
  puts = more_puts;
  lacks = later.lacks;
  faults = later.faults;
  beneath = below;
}

-- ---- gets

-- a block of the batch's own
pub gets_own : (x : ℕ × ℕ) (m : Moment) (own : List (List ℕ)) (g h p : ℕ) (id b : List ℕ) → h ≡ bumped g → g ≤ h → block_at own id ≡ Some b → Gets (batch_moment m own g p x) id (Ok (Some b)) (batch_moment m own h p x)
gets_own x m own g h p id b count more is = record {
  answer = (block_at_id own id b is, if_all (λ held. own ++ held) (λ blocks. block_at blocks id ≡ Some b) m.blocks (λ held. own_first own held id b is));
  later = later_kept x m m own g h p p (Later-refl m) more (omega arith) (below_still x m own g h p p more (omega arith));
  blocks = refl;
  given = refl;
  gets = count;
  puts = refl;
}

get_beneath : (x : ℕ × ℕ) (m n : Moment) (own : List (List ℕ)) (g h p : ℕ) (id : List ℕ) (r : Result (Option (List ℕ)) EdgeErr) → block_at own id ≡ None → GetsAnswer m id r n → GetsAnswer (batch_moment m own g p x) id r (batch_moment n own h p x)
get_beneath x m n own g h p id (Ok (Some b)) none answer = (answer.0, if_over (λ held. own ++ held) (λ blocks. block_at blocks id ≡ Some b) (λ blocks. block_at blocks id ≡ Some b) m.blocks answer.1 (λ held is. then_held own held id none ∙ is))
get_beneath x m n own g h p id (Ok None) none answer = (if_over (λ held. own ++ held) (λ blocks. block_at blocks id ≡ None) (λ blocks. block_at blocks id ≡ None) m.blocks answer.0 (λ held is. then_held own held id none ∙ is), answer.1)
get_beneath x m n own g h p id (Err E.Failed) none answer = answer
get_beneath x m n own g h p id (Err E.Memory) none answer = tt

-- what the store beneath answers under another id
pub gets_beneath : (x : ℕ × ℕ) (m n : Moment) (own : List (List ℕ)) (g h p : ℕ) (id : List ℕ) (r : Result (Option (List ℕ)) EdgeErr) → h ≡ bumped g → g ≤ h → block_at own id ≡ None → Gets m id r n → Gets (batch_moment m own g p x) id r (batch_moment n own h p x)
gets_beneath x m n own g h p id r count more none gets = record {
  answer = get_beneath x m n own g h p id r none gets.answer;
  later = later_kept x m n own g h p p gets.later more (omega arith) (below_asked x m n own own g h p p id r gets (inl (count, refl)) (λ few. omega arith));
  blocks = ap (option_map (λ held. own ++ held)) gets.blocks;
  given = refl;
  gets = count;
  puts = refl;
}

-- ---- puts

given_already : (ids : List (List ℕ)) (id : List ℕ) → Contains ids id → Gives id ids ids
given_already ids id is j = (λ has. inl has, λ either. ⊎_elim (λ has. has) (λ same. subst (Contains ids) (sym same) is) either)

-- the block is one of the batch's own
pub puts_own : (x : ℕ × ℕ) (m : Moment) (own : List (List ℕ)) (g p q : ℕ) (b : List ℕ) → q ≡ bumped p → p ≤ q → block_at own (id_of b) ≡ Some b → Puts (batch_moment m own g p x) b (Ok None) (batch_moment m own g q x)
puts_own x m own g p q b count more is = record {
  answer = (
    over (λ held. own ++ held) (λ held. own ++ held) (λ was now. IsFree b was × Adds b was now) m.blocks m.blocks
        (both (λ was now. IsFree b (own ++ was) × Adds b (own ++ was) (own ++ now)) m.blocks m.blocks refl (λ held. (inr (own_first own held (id_of b) b is), Adds-held (own ++ held) b (own_first own held (id_of b) b is)))),
    given_already (map id_of own) (id_of b) (Contains-map id_of own b (block_at-among own (id_of b) b is)),
  );
  later = later_kept x m m own g g p q (Later-refl m) (omega arith) more (below_still x m own g g p q (omega arith) more);
  gets = refl;
  puts = count;
}

-- the batch has other bytes of its own under the id
pub puts_other_own : (x : ℕ × ℕ) (m : Moment) (own : List (List ℕ)) (g p q : ℕ) (b c : List ℕ) → q ≡ bumped p → p ≤ q → block_at own (id_of b) ≡ Some c → c ≢ b → Puts (batch_moment m own g p x) b (Ok (Some c)) (batch_moment m own g q x)
puts_other_own x m own g p q b c count more is apart = record {
  answer = (block_at_id own (id_of b) c is, apart, refl, if_all (λ held. own ++ held) (λ blocks. block_at blocks (id_of b) ≡ Some c) m.blocks (λ held. own_first own held (id_of b) c is), refl);
  later = later_kept x m m own g g p q (Later-refl m) (omega arith) more (below_still x m own g g p q (omega arith) more);
  gets = refl;
  puts = count;
}

-- the store beneath holds other bytes under the id
pub puts_other_beneath : (x : ℕ × ℕ) (m n : Moment) (own : List (List ℕ)) (g p q : ℕ) (b c : List ℕ) → q ≡ bumped p → p ≤ q → block_at own (id_of b) ≡ None → Gets m (id_of b) (Ok (Some c)) n → c ≢ b → Puts (batch_moment m own g p x) b (Ok (Some c)) (batch_moment n own g q x)
puts_other_beneath x m n own g p q b c count more none gets apart = record {
  answer = (
    gets.answer.0,
    apart,
    ap (option_map (λ held. own ++ held)) gets.blocks,
    if_over (λ held. own ++ held) (λ blocks. block_at blocks (id_of b) ≡ Some c) (λ blocks. block_at blocks (id_of b) ≡ Some c) m.blocks gets.answer.1 (λ held is. then_held own held (id_of b) none ∙ is),
    refl,
  );
  later = later_kept x m n own g g p q gets.later (omega arith) more (below_asked x m n own own g g p q (id_of b) (Ok (Some c)) gets (inr (refl, count)) (λ few. omega (arith, more)));
  gets = refl;
  puts = count;
}

adds_own : (own held : List (List ℕ)) (b : List ℕ) → block_at own (id_of b) ≡ None → Adds b (own ++ held) ((own ++ b ∷ []) ++ held)
adds_own own held b none =
    let pushed : Adds b own (own ++ b ∷ []) = Adds-push own b none in
    record {
      held = own_first (own ++ b ∷ []) held (id_of b) b pushed.held;
      others = λ id apart. block_at-append (own ++ b ∷ []) held id ∙ ap (λ o. option_or o (block_at held id)) (pushed.others id apart) ∙ sym (block_at-append own held id);
    }

free_own : (own held : List (List ℕ)) (b : List ℕ) → block_at own (id_of b) ≡ None → IsFree b held → IsFree b (own ++ held)
free_own own held b none free = ⊎_elim (λ lacks. inl (then_held own held (id_of b) none ∙ lacks)) (λ has. inr (then_held own held (id_of b) none ∙ has)) free

gives_last : (own : List (List ℕ)) (b : List ℕ) → Gives (id_of b) (map id_of own) (map id_of (own ++ b ∷ []))
gives_last own b j = rw (map-append id_of own (b ∷ [])) (
  (λ has. ⊎_elim (λ was. inl was) (λ last. inr (Contains-one (id_of b) j last)) (Contains-append_cases (map id_of own) (id_of b ∷ []) j has)),
  (λ either. ⊎_elim (λ was. Contains-append_left (map id_of own) (id_of b ∷ []) j was) (λ same. Contains-append_right (map id_of own) (id_of b ∷ []) j (0, omega arith, sym same)) either),
)

added_told : (own : List (List ℕ)) (b : List ℕ) (a c : Option (List (List ℕ))) → c ≡ a → IfTold a (IsFree b) → block_at own (id_of b) ≡ None
    → BothTold (option_map (λ held. own ++ held) a) (option_map (λ held. (own ++ b ∷ []) ++ held) c) (λ was now. IsFree b was × Adds b was now)
added_told own b a c same free none = over (λ held. own ++ held) (λ held. (own ++ b ∷ []) ++ held) (λ was now. IsFree b was × Adds b was now) a c
    (both_if (λ was now. IsFree b (own ++ was) × Adds b (own ++ was) ((own ++ b ∷ []) ++ now)) (IsFree b) a c same free (λ held is. (free_own own held b none is, adds_own own held b none)))

told_keeps : (b : List ℕ) (a c : Option (List (List ℕ))) → BothTold a c (λ was now. IsFree b was × Adds b was now) → BothTold a c Keeps
told_keeps b None None p = tt
told_keeps b (Some x) (Some y) p = keeps_adds b x y p.0 p.1
told_keeps b None (Some y) p = absurd p
told_keeps b (Some x) None p = absurd p

-- a block that is new to the batch, and that the store beneath may hold
pub puts_new : (x : ℕ × ℕ) (m n : Moment) (own : List (List ℕ)) (g p q : ℕ) (b : List ℕ) → q ≡ bumped p → p ≤ q → block_at own (id_of b) ≡ None → Later m n → n.blocks ≡ m.blocks → IfTold m.blocks (IsFree b) → BelowStays (batch_moment m own g p x) (batch_moment n (own ++ b ∷ []) g q x)
    → Puts (batch_moment m own g p x) b (Ok None) (batch_moment n (own ++ b ∷ []) g q x)
puts_new x m n own g p q b count more none later same free below =
    let added : BothTold (option_map (λ held. own ++ held) m.blocks) (option_map (λ held. (own ++ b ∷ []) ++ held) n.blocks) (λ was now. IsFree b was × Adds b was now) = added_told own b m.blocks n.blocks same free none in
    record {
      answer = (added, gives_last own b);
      later = record {
        keeps = told_keeps b (option_map (λ held. own ++ held) m.blocks) (option_map (λ held. (own ++ b ∷ []) ++ held) n.blocks) added;
        given = λ id is. rw (map-append id_of own (b ∷ [])) (Contains-append_left (map id_of own) (id_of b ∷ []) id is);
        gets = omega arith;
        puts = more;
        lacks = later.lacks;
        faults = later.faults;
        beneath = below;
      };
      gets = refl;
      puts = count;
    }

free_lacks : (b : List ℕ) (a : Option (List (List ℕ))) → IfTold a (λ blocks. block_at blocks (id_of b) ≡ None) → IfTold a (IsFree b)
free_lacks b None p = tt
free_lacks b (Some x) p = inl p

free_has : (b : List ℕ) (a : Option (List (List ℕ))) → IfTold a (λ blocks. block_at blocks (id_of b) ≡ Some b) → IfTold a (IsFree b)
free_has b None p = tt
free_has b (Some x) p = inr p

-- the store beneath lacks it
pub puts_lacking : (x : ℕ × ℕ) (m n : Moment) (own now : List (List ℕ)) (g p q : ℕ) (b id : List ℕ) → q ≡ bumped p → p ≤ q → id ≡ id_of b → block_at own id ≡ None → now ≡ own ++ b ∷ [] → Gets m id (Ok None) n
    → Puts (batch_moment m own g p x) b (Ok None) (batch_moment n now g q x)
puts_lacking x m n own now g p q b id count more is none pushed gets =
    let here : Gets m (id_of b) (Ok None) n = subst (λ (i : List ℕ). Gets m i (Ok None) n) is gets in
    rw pushed (puts_new x m n own g p q b count more (ap (block_at own) (sym is) ∙ none) gets.later gets.blocks (free_lacks b m.blocks here.answer.0) (below_asked x m n own (own ++ b ∷ []) g g p q id (Ok None) gets (inr (refl, count)) (own_grown own b p q count)))

-- the store beneath holds it
pub puts_held : (x : ℕ × ℕ) (m n : Moment) (own now : List (List ℕ)) (g p q : ℕ) (b id c : List ℕ) → q ≡ bumped p → p ≤ q → id ≡ id_of b → block_at own id ≡ None → c ≡ b → now ≡ own ++ c ∷ [] → Gets m id (Ok (Some c)) n
    → Puts (batch_moment m own g p x) b (Ok None) (batch_moment n now g q x)
puts_held x m n own now g p q b id c count more is none same pushed gets =
    let here : Gets m (id_of b) (Ok (Some b)) n = subst (λ (x : List ℕ). Gets m (id_of b) (Ok (Some x)) n) same (subst (λ (i : List ℕ). Gets m i (Ok (Some c)) n) is gets) in
    rw (pushed ∙ ap (λ x. own ++ x ∷ []) same) (puts_new x m n own g p q b count more (ap (block_at own) (sym is) ∙ none) gets.later gets.blocks (free_has b m.blocks here.answer.1) (below_asked x m n own (own ++ b ∷ []) g g p q id (Ok (Some c)) gets (inr (refl, count)) (own_grown own b p q count)))
