-- Replies to a line that is answered twice, where the first answer left everything; and what is due with more gets.
use Rattle.std.proofs.Common.{◌≡◌, ◌⊎◌, inl, inr, ℕ, ◌+◌, ◌≤◌, List, [], ◌∷◌, ◌++◌, Option, Some, None, refl, sym, ap, ◌∙◌, subst, arith}
use Rattle.std.specs.Prelude.{Contains, IfSome, min, option_map}
use Rattle.std.specs.Option.{option_map_or}
use Rattle.ild_edges.proofs.Later.{Later-trans, keeps_trans}
use Rattle.ild_edges.proofs.Reading.{kept_same}
use Rattle.ild_edges.specs.Gained.{AreHeld, CameFrom}
use Rattle.ild_edges.specs.Count.{Rose}
use Rattle.ild_edges.specs.Store.{Later, Moment, block_at}
use Rattle.ild_edges.specs.Told.{BothTold, IfTold}
use Rattle.ild_script.specs.declared.reply.No.{No}
use Rattle.ild_script.specs.declared.reply.No.TheVariants as N
use Rattle.ild_script.specs.declared.reply.Reply.{Reply}
use Rattle.ild_script.specs.declared.reply.Reply.TheVariants as R
use Rattle.ild_script_session.proofs.Came.{Came, none_came}
use Rattle.ild_script_session.specs.Batch.{beside, owed_at, own_at, puts_at, together}
use Rattle.ild_script_session.specs.Session.{Due, Meaning, Stage, State, left}
use Rattle.ild_script_session.specs.Step.{AreCarried, Carries, HasCause, Holds, IsExcused, IsWhole, Replies, StaysTogether}

-- the state stays, nothing may be added or put, and no put is owed
pub record LeavesAsIs {V : Type 0} (d : Due V) (s : State V) : Type 0 where
  pub next : d.next ≡ s
  pub adds : d.adds ≡ []
  pub puts : d.puts ≡ 0
  pub owes : d.owes ≡ 0

-- ---- what came where nothing may come

none_in : (b : List ℕ) → Contains [] b → ⊥
none_in b is = absurd (omega (arith, is.1))

pub none_among : (adds : List (List ℕ)) (b : List ℕ) → adds ≡ [] → Contains adds b → ⊥
none_among adds b none is = none_in b (subst (λ (bs : List (List ℕ)). Contains bs b) none is)

came_so : (New : List ℕ → List (List ℕ) → Type 0) (adds was now : List (List ℕ)) → adds ≡ [] → CameFrom adds was now → Came New was now
came_so New adds was now none came id b here = by (came id b here) where
  by : (block_at was id ≡ Some b) ⊎ Contains adds b → (block_at was id ≡ Some b) ⊎ New b now
  by (inl there) = inl there
  by (inr new) = absurd (none_among adds b none new)

nothing_came : (New : List ℕ → List (List ℕ) → Type 0) (adds : List (List ℕ)) (a b : Option (List (List ℕ))) → adds ≡ [] → BothTold a b (CameFrom adds) → BothTold a b (Came New)
nothing_came New adds None None none came = tt
nothing_came New adds None (Some now) none came = absurd came
nothing_came New adds (Some was) None none came = absurd came
nothing_came New adds (Some was) (Some now) none came = came_so New adds was now none came

earlier : (New : List ℕ → List (List ℕ) → Type 0) (adds was between now : List (List ℕ)) → adds ≡ [] → CameFrom adds was between → Came New between now → Came New was now
earlier New adds was between now none first then id b here = by (then id b here) where
  back : (block_at was id ≡ Some b) ⊎ Contains adds b → (block_at was id ≡ Some b) ⊎ New b now
  back (inl there) = inl there
  back (inr new) = absurd (none_among adds b none new)

  by : (block_at between id ≡ Some b) ⊎ New b now → (block_at was id ≡ Some b) ⊎ New b now
  by (inl there) = back (first id b there)
  by (inr new) = inr new

came_then : (New : List ℕ → List (List ℕ) → Type 0) (adds : List (List ℕ)) (a b c : Option (List (List ℕ))) → adds ≡ [] → BothTold a b (CameFrom adds) → BothTold b c (Came New) → BothTold a c (Came New)
came_then New adds None None None none first then = tt
came_then New adds None None (Some z) none first then = absurd then
came_then New adds None (Some y) c none first then = absurd first
came_then New adds (Some x) None c none first then = absurd first
came_then New adds (Some x) (Some y) None none first then = absurd then
came_then New adds (Some x) (Some y) (Some z) none first then = earlier New adds x y z none first then

-- ---- causes

module _ (m n k : Moment) (later : Later m n) (same : n.blocks ≡ m.blocks) where
  cause_before : (adds : List (List ℕ)) (refusal : No) → HasCause n adds refusal k → HasCause m adds refusal k
  cause_before adds N.Block c = record { untold = sym same ∙ c.untold; lacks = by c.lacks } where
    by : Rose n.lacks k.lacks ⊎ Rose n.gets k.gets → Rose m.lacks k.lacks ⊎ Rose m.gets k.gets
    by (inl lacks) = let up = later.lacks in let rose = lacks in inl (omega (arith, up, rose))
    by (inr gets) = let up = later.gets in let rose = gets in inr (omega (arith, up, rose))
  cause_before adds N.Store c = let up = later.faults in let rose = c in omega (arith, up, rose)
  cause_before adds N.Clash c = c
  cause_before adds N.Memory c = tt
  cause_before adds N.Line c = absurd c
  cause_before adds N.Path c = absurd c
  cause_before adds N.Json c = absurd c
  cause_before adds N.Mismatch c = absurd c
  cause_before adds N.Delimiter c = absurd c
  cause_before adds N.Hole c = absurd c
  cause_before adds N.Depth c = absurd c
  cause_before adds N.Exhausted c = absurd c
  cause_before adds N.Size c = absurd c
  cause_before adds N.Reserved c = absurd c
  cause_before adds N.Batch c = absurd c

  either_before : (adds : List (List ℕ)) (refusal : No) (both : Moment) → HasCause n adds refusal k ⊎ HasCause n adds refusal both → (HasCause n adds refusal both → HasCause m adds refusal both)
      → HasCause m adds refusal k ⊎ HasCause m adds refusal both
  either_before adds refusal both (inl c) other = inl (cause_before adds refusal c)
  either_before adds refusal both (inr c) other = inr (other c)

excused_before : (m n k both : Moment) → Later m n → n.blocks ≡ m.blocks → (adds : List (List ℕ)) (reply : Option Reply) → IsExcused n adds reply k both → IsExcused m adds reply k both
excused_before m n k both later same adds None e = absurd e
excused_before m n k both later same adds (Some (R.Ok text)) e = absurd e
excused_before m n k both later same adds (Some (R.Root id)) e = absurd e
excused_before m n k both later same adds (Some (R.No refusal)) e = either_before m n k later same adds refusal both e (λ c. cause_before m n both later same adds refusal c)

-- a cause where nothing may be added is one where anything may be
cause_wider : (m n : Moment) (few many : List (List ℕ)) (refusal : No) → few ≡ [] → HasCause m few refusal n → HasCause m many refusal n
cause_wider m n few many N.Block none c = c
cause_wider m n few many N.Store none c = c
cause_wider m n few many N.Clash none c = absurd (none_among few c.new none c.among)
cause_wider m n few many N.Memory none c = tt
cause_wider m n few many N.Line none c = absurd c
cause_wider m n few many N.Path none c = absurd c
cause_wider m n few many N.Json none c = absurd c
cause_wider m n few many N.Mismatch none c = absurd c
cause_wider m n few many N.Delimiter none c = absurd c
cause_wider m n few many N.Hole none c = absurd c
cause_wider m n few many N.Depth none c = absurd c
cause_wider m n few many N.Exhausted none c = absurd c
cause_wider m n few many N.Size none c = absurd c
cause_wider m n few many N.Reserved none c = absurd c
cause_wider m n few many N.Batch none c = absurd c

either_wider : (m n both : Moment) (few many : List (List ℕ)) (refusal : No) → few ≡ [] → HasCause m few refusal n ⊎ HasCause m few refusal both → HasCause m many refusal n ⊎ HasCause m many refusal both
either_wider m n both few many refusal none (inl c) = inl (cause_wider m n few many refusal none c)
either_wider m n both few many refusal none (inr c) = inr (cause_wider m both few many refusal none c)

excused_wider : (m n both : Moment) (few many : List (List ℕ)) (reply : Option Reply) → few ≡ [] → IsExcused m few reply n both → IsExcused m many reply n both
excused_wider m n both few many None none e = absurd e
excused_wider m n both few many (Some (R.Ok text)) none e = absurd e
excused_wider m n both few many (Some (R.Root id)) none e = absurd e
excused_wider m n both few many (Some (R.No refusal)) none e = either_wider m n both few many refusal none e

-- ---- counts of a batch

module _ {V : Type 0} where
  puts_none : (o : Option V) (p owed : ℕ) → p ≡ 0 → option_map_or (λ v. min p owed) o p ≤ 0
  puts_none None p owed none = omega (arith, none)
  puts_none (Some v) p owed none = omega (arith, none)

  puts_less : (o : Option V) (p a b : ℕ) → option_map_or (λ v. a) o 0 ≤ option_map_or (λ v. b) o 0 → option_map_or (λ v. min p a) o p ≤ option_map_or (λ v. min p b) o p
  puts_less None p a b le = omega arith
  puts_less (Some v) p a b le = omega (arith, le)

-- ---- what is carried

holds_on : (m n : Moment) → n.blocks ≡ m.blocks → (bs : List (List ℕ)) → Holds m bs → Holds n bs
holds_on m n same bs all = subst (λ (o : Option (List (List ℕ))). IfTold o (AreHeld bs)) (sym same) all

one_on : (m n : Moment) → n.blocks ≡ m.blocks → (own : List (List ℕ)) (p : List ℕ × List (List ℕ)) → Contains own p.0 ⊎ Holds m p.1 → Contains own p.0 ⊎ Holds n p.1
one_on m n same own p (inl x) = inl x
one_on m n same own p (inr x) = inr (holds_on m n same p.1 x)

carried_on : (m n : Moment) → n.blocks ≡ m.blocks → (own : List (List ℕ)) (ps : List (List ℕ × List (List ℕ))) → AreCarried m own ps → AreCarried n own ps
carried_on m n same own [] all = tt
carried_on m n same own (p ∷ ps) all = (one_on m n same own p all.0, carried_on m n same own ps all.1)

together_same : {V : Type 0} (o : Option V) (own : List (List ℕ)) (m n : Moment) → n.blocks ≡ m.blocks → (beside o own n).blocks ≡ (beside o own m).blocks
together_same None own m n same = same
together_same (Some v) own m n same = ap (option_map (λ held. own ++ held)) same

module _ {V : Type 0} (M : Meaning V) where
  -- what is carried is, where the store holds the same
  pub carries_same : (m n : Moment) (s : Stage V) → n.blocks ≡ m.blocks → Carries M m s → Carries M n s
  carries_same m n s same c = record {
    kept = holds_on m n same (M.blocks (left s.state)) c.kept;
    value = holds_on (together m s) (together n s) (together_same s.state.begun s.own m n same) (M.blocks s.state.value) c.value;
    places = carried_on m n same (own_at s) (M.places s.state.value) c.places;
  }

  stays_so : (m n : Moment) (s : Stage V) (d : Due V) (o : Option V) → (together n s).blocks ≡ (together m s).blocks → IfSome o (λ v. StaysTogether m s d n s)
  stays_so m n s d None same = tt
  stays_so m n s d (Some v) same = record {
    keeps = kept_same (together m s).blocks (together n s).blocks same;
    gained = record { adds = none_came (λ b now. Contains d.adds b) (together m s).blocks (together n s).blocks same; whole = none_came (λ b now. IsWhole now (d.children b)) (together m s).blocks (together n s).blocks same };
  }

  -- a reply that leaves the stage and what the store holds
  pub still_at : (m n : Moment) (s : Stage V) (d : Due V) (reply : Option Reply) → Later m n → n.blocks ≡ m.blocks → n.gets ≤ m.gets + d.gets → n.puts ≡ m.puts
      → ((reply ≡ d.reply) × (s.state ≡ d.next)) ⊎ IsExcused m d.adds reply n (together n s) → Replies M m s d reply n s
  still_at m n s d reply later same gets puts answered = record {
    answered = by answered;
    later = later;
    carries = carries_same m n s same;
    stored = record { adds = none_came (λ b now. Contains d.adds b) m.blocks n.blocks same; whole = none_came (λ b now. IsWhole now (d.children b)) m.blocks n.blocks same };
    still = λ none. same;
    stays = stays_so m n s d s.state.begun (together_same s.state.begun s.own m n same);
    gets = gets;
    puts = omega (arith, puts);
    owed = omega arith;
  } where
    by : ((reply ≡ d.reply) × (s.state ≡ d.next)) ⊎ IsExcused m d.adds reply n (together n s) → ((reply ≡ d.reply) × (s.state ≡ d.next)) ⊎ (IsExcused m d.adds reply n (together n s) × (s.state ≡ s.state))
    by (inl due) = inl due
    by (inr excused) = inr (excused, refl)

  -- more gets may be due
  pub more_gets : (m : Moment) (s : Stage V) (d : Due V) (reply : Option Reply) (n : Moment) (t : Stage V) (g : ℕ) → d.gets ≤ g → Replies M m s d reply n t → Replies M m s (record d { gets = g }) reply n t
  more_gets m s d reply n t g le r = record {
    answered = r.answered;
    later = r.later;
    carries = r.carries;
    stored = record { adds = r.stored.adds; whole = r.stored.whole };
    still = r.still;
    stays = by t.state.begun r.stays;
    gets = let rose = r.gets in omega (arith, rose, le);
    puts = r.puts;
    owed = r.owed;
  } where
    by : (o : Option V) → IfSome o (λ v. StaysTogether m s d n t) → IfSome o (λ v. StaysTogether m s (record d { gets = g }) n t)
    by None stays = tt
    by (Some v) stays = record { keeps = stays.keeps; gained = record { adds = stays.gained.adds; whole = stays.gained.whole } }

  -- ---- a line that is due nothing that is left

  module _ (m n : Moment) (s t : Stage V) (d : Due V) (q : Option Reply) (as_is : LeavesAsIs d s.state) (first : Replies M m s d q n t) where
    first_puts : n.puts ≤ m.puts
    first_puts = let le = first.puts in let none = puts_none s.state.begun d.puts s.owed as_is.puts in omega (arith, le, none)

    first_owed : owed_at t ≤ owed_at s
    first_owed = let le = first.owed in let none = as_is.owes in omega (arith, le, none)

    -- where its refusal has a cause, it is one whatever is due
    pub refused_anyway : (e : Due V) → d.gets ≤ e.gets → IsExcused m d.adds q n (together n t) → t.state ≡ s.state → Replies M m s e q n t
    refused_anyway e le excused state = record {
      answered = inr (excused_wider m n (together n t) d.adds e.adds q as_is.adds excused, state);
      later = first.later;
      carries = first.carries;
      stored = record { adds = none_came (λ b now. Contains e.adds b) m.blocks n.blocks (first.still as_is.puts); whole = none_came (λ b now. IsWhole now (e.children b)) m.blocks n.blocks (first.still as_is.puts) };
      still = λ none. first.still as_is.puts;
      stays = by t.state.begun first.stays;
      gets = let rose = first.gets in omega (arith, rose, le);
      puts = let none = first_puts in omega (arith, none);
      owed = let none = first_owed in omega (arith, none);
    } where
      by : (o : Option V) → IfSome o (λ v. StaysTogether m s d n t) → IfSome o (λ v. StaysTogether m s e n t)
      by None stays = tt
      by (Some v) stays = record {
        keeps = stays.keeps;
        gained = record {
          adds = nothing_came (λ b now. Contains e.adds b) d.adds (together m s).blocks (together n t).blocks as_is.adds stays.gained.adds;
          whole = nothing_came (λ b now. IsWhole now (e.children b)) d.adds (together m s).blocks (together n t).blocks as_is.adds stays.gained.adds;
        };
      }

    module _ (k : Moment) (u : Stage V) (e : Due V) (r : Option Reply) (state : t.state ≡ s.state) (begun : e.next.begun ≡ s.state.begun) (then : Replies M n t e r k u) where
      abbrev pub both_due : Due V
      both_due = record e { gets = d.gets + e.gets }

      same : n.blocks ≡ m.blocks
      same = first.still as_is.puts

      begun_then : u.state.begun ≡ t.state.begun
      begun_then = by then.answered where
        by : ((r ≡ e.reply) × (u.state ≡ e.next)) ⊎ (IsExcused n e.adds r k (together k u) × (u.state ≡ t.state)) → u.state.begun ≡ t.state.begun
        by (inl due) = ap (λ (x : State V). x.begun) due.1 ∙ begun ∙ sym (ap (λ (x : State V). x.begun) state)
        by (inr excused) = ap (λ (x : State V). x.begun) excused.1

      answered_both : ((r ≡ e.reply) × (u.state ≡ e.next)) ⊎ (IsExcused m e.adds r k (together k u) × (u.state ≡ s.state))
      answered_both = by then.answered where
        by : ((r ≡ e.reply) × (u.state ≡ e.next)) ⊎ (IsExcused n e.adds r k (together k u) × (u.state ≡ t.state)) → ((r ≡ e.reply) × (u.state ≡ e.next)) ⊎ (IsExcused m e.adds r k (together k u) × (u.state ≡ s.state))
        by (inl due) = inl due
        by (inr excused) = inr (excused_before m n k (together k u) first.later same e.adds r excused.0, excused.1 ∙ state)

      stays_both : (o p : Option V) → p ≡ o → IfSome o (λ v. StaysTogether m s d n t) → IfSome p (λ v. StaysTogether n t e k u) → IfSome p (λ v. StaysTogether m s both_due k u)
      stays_both o None is one two = tt
      stays_both None (Some v) is one two = absurd cc
      stays_both (Some v) (Some w) is one two = record {
        keeps = keeps_trans (together m s).blocks (together n t).blocks (together k u).blocks one.keeps two.keeps;
        gained = record {
          adds = came_then (λ b now. Contains e.adds b) d.adds (together m s).blocks (together n t).blocks (together k u).blocks as_is.adds one.gained.adds two.gained.adds;
          whole = came_then (λ b now. IsWhole now (e.children b)) d.adds (together m s).blocks (together n t).blocks (together k u).blocks as_is.adds one.gained.adds two.gained.whole;
        };
      }

      puts_then : puts_at t e ≤ puts_at s e
      puts_then =
          let owed : option_map_or (λ v. t.owed) s.state.begun 0 ≤ option_map_or (λ v. s.owed) s.state.begun 0 = subst (λ (x : State V). option_map_or (λ v. t.owed) x.begun 0 ≤ option_map_or (λ v. s.owed) s.state.begun 0) state first_owed in
          subst (λ (x : State V). option_map_or (λ v. min e.puts t.owed) x.begun e.puts ≤ puts_at s e) (sym state) (puts_less s.state.begun e.puts t.owed s.owed owed)

      -- two answers are one, with the gets of both
      pub two_answers : Replies M m s both_due r k u
      two_answers = record {
        answered = answered_both;
        later = Later-trans m n k first.later then.later;
        carries = λ c. then.carries (first.carries c);
        stored = record {
          adds = subst (λ (o : Option (List (List ℕ))). BothTold o k.blocks (CameFrom e.adds)) same then.stored.adds;
          whole = subst (λ (o : Option (List (List ℕ))). BothTold o k.blocks (Came (λ b now. IsWhole now (e.children b)))) same then.stored.whole;
        };
        still = λ none. then.still none ∙ same;
        stays = stays_both t.state.begun u.state.begun begun_then first.stays then.stays;
        gets = let a = first.gets in let b = then.gets in omega (arith, a, b);
        puts = let a = first_puts in let b = then.puts in let c = puts_then in omega (arith, a, b, c);
        owed = let a = first_owed in let b = then.owed in omega (arith, a, b);
      }
