-- Reading finds a text of its rule, or it stops where some tokens would go on to one.
use Rattle.std.proofs.Common.{◌≡◌, ℕ, zero, Bool, true, false, cond, List, [], ◌∷◌, ◌++◌, Result, Ok, Err, Option, Some, None, refl, sym, ap, subst, ◌∙◌, append_assoc, inl, inr}
use Rattle.std.specs.Prelude.{◌⊎◌}
use Rattle.ild_parse_grammar.specs.Sign.{Sign, place_of, kind_of_text}
use Rattle.ild_parse_grammar.proofs.Stream.{Stream, begins, is_literal, rest_of}
use Rattle.ild_parse_grammar.proofs.Read.{◌>>=◌, literal_at}
use Rattle.ild_parse_grammar.specs.Derive.{BeginsAt}
use Rattle.ild_parse_grammar.proofs.Complete.{reading, word_sign}
use Rattle.ild_parse_grammar.proofs.Results.{word_next, ok_is, no_value}
use Rattle.ild_parse_grammar.proofs.Local.{Same, same_self, Found, Stops, IsNext, same_behind, see_same, see_behind, joined, token_read}

-- these tokens are a text of the rule for this part, whatever comes behind
abbrev pub IsWhole : {A : Type 0} → (A → List Sign → List Sign → Type 0) → A → List Sign → Type 0
IsWhole part a front = (ws : List Sign) → part a (front ++ ws) ws

-- with some tokens behind them they are one
pub record Grows {A : Type 0} (part : A → List Sign → List Sign → Type 0) (front : List Sign) : Type 0 where
  pub more : List Sign
  pub made : A
  pub whole : IsWhole part made (front ++ more)

-- it reads a text of its rule, or stops where these tokens would go on to one
pub record Reads {A : Type 0} (F : Stream → Result (A × Stream) ℕ) (part : A → List Sign → List Sign → Type 0) (end : ℕ) (xs : List Sign) : Type 0 where
  pub found : Found F end xs
  pub whole : IsWhole part found.part found.front

pub record Waits {A : Type 0} (F : Stream → Result (A × Stream) ℕ) (part : A → List Sign → List Sign → Type 0) (end : ℕ) (xs : List Sign) : Type 0 where
  pub stops : Stops F end xs
  pub grows : Grows part stops.front

pub record Opens {A : Type 0} (F : Stream → Result (A × Stream) ℕ) (part : A → List Sign → List Sign → Type 0) (end : ℕ) (xs : List Sign) : Type 0 where
  pub is : Reads F part end xs ⊎ Waits F part end xs

-- what may still come behind these tokens
abbrev pub Behind : {A : Type 0} → (A → List Sign → List Sign → Type 0) → List Sign → A → List Sign → List Sign → Type 0
Behind part front a us ys = part a (front ++ us) ys

-- ---- tokens that go on

-- reading where nothing is left tells some text of the rule
pub sample : {A : Type 0} (F : Stream → Result (A × Stream) ℕ) (part : A → List Sign → List Sign → Type 0) (end : ℕ) (front : List Sign) → Opens F (Behind part front) end [] → Grows part front
sample F part end front o =
    elim o.is [
      | inl h ↦ record { more = h.found.front; made = h.found.part; whole = λ ws. subst (λ (v : List Sign). part h.found.part v ws) (sym (append_assoc front h.found.front ws)) (h.whole ws) }
      | inr h ↦ record { more = h.stops.front ++ h.grows.more; made = h.grows.made; whole = λ ws. subst (λ (v : List Sign). part h.grows.made v ws) (sym (append_assoc front (h.stops.front ++ h.grows.more) ws)) (h.grows.whole ws) }
    ]

-- tokens behind some of them are tokens behind all of them
pub grows_more : {A : Type 0} (part : A → List Sign → List Sign → Type 0) (front more : List Sign) → Grows part (front ++ more) → Grows part front
grows_more part front more g =
    record { more = more ++ g.more; made = g.made; whole = λ ws. subst (λ (v : List Sign). part g.made (v ++ ws) ws) (append_assoc front more g.more) (g.whole ws) }

-- ---- one reader in place of another

pub opens_shift : {A : Type 0} (F G : Stream → Result (A × Stream) ℕ) (part : A → List Sign → List Sign → Type 0) (end : ℕ) (pre us xs : List Sign) → xs ≡ pre ++ us
    → ((front rest zs : List Sign) → us ≡ front ++ rest → Same rest zs → F (reading end (pre ++ (front ++ zs))) ≡ G (reading end (front ++ zs)))
    → Opens G (Behind part pre) end us → Opens F part end xs
opens_shift F G part end pre us xs e alike o =
    elim o.is [
      | inl h ↦
          let found : Found F end xs = record {
            part = h.found.part;
            front = pre ++ h.found.front;
            rest = h.found.rest;
            are = joined xs pre us h.found.front h.found.rest e h.found.are;
            read = λ zs same. rw (append_assoc pre h.found.front zs) (alike h.found.front h.found.rest zs h.found.are same ∙ h.found.read zs same);
          } in
          record { is = inl (record { found = found; whole = λ ws. subst (λ (v : List Sign). part h.found.part v ws) (sym (append_assoc pre h.found.front ws)) (h.whole ws) }) }
      | inr h ↦
          let stops : Stops F end xs = record {
            front = pre ++ h.stops.front;
            rest = h.stops.rest;
            are = joined xs pre us h.stops.front h.stops.rest e h.stops.are;
            fails = λ zs same. rw (append_assoc pre h.stops.front zs) (alike h.stops.front h.stops.rest zs h.stops.are same ∙ h.stops.fails zs same);
          } in
          let grown : Grows part (pre ++ h.stops.front) = record {
            more = h.grows.more;
            made = h.grows.made;
            whole = λ ws. rw (append_assoc pre h.stops.front h.grows.more, append_assoc pre (h.stops.front ++ h.grows.more) ws) (h.grows.whole ws);
          } in
          record { is = inr (record { stops = stops; grows = grown }) }
    ]

pub opens_equal : {A : Type 0} (F G : Stream → Result (A × Stream) ℕ) (part : A → List Sign → List Sign → Type 0) → ((s : Stream) → F s ≡ G s) → (end : ℕ) (xs : List Sign) → Opens G part end xs → Opens F part end xs
opens_equal F G part same end xs o = opens_shift F G part end [] xs xs refl (λ front rest zs are k. same (reading end (front ++ zs))) o

-- a text of one rule that is one of another
pub opens_weak : {A : Type 0} (first part : A → List Sign → List Sign → Type 0) (end : ℕ) (F : Stream → Result (A × Stream) ℕ) → ((a : A) (front : List Sign) → IsWhole first a front → IsWhole part a front)
    → (xs : List Sign) → Opens F first end xs → Opens F part end xs
opens_weak first part end F into xs o =
    elim o.is [
      | inl h ↦ record { is = inl (record { found = h.found; whole = into h.found.part h.found.front h.whole }) }
      | inr h ↦ record { is = inr (record { stops = h.stops; grows = record { more = h.grows.more; made = h.grows.made; whole = into h.grows.made (h.stops.front ++ h.grows.more) h.grows.whole } }) }
    ]

-- ---- parts one after the other

pub opens_pure : {A : Type 0} (a : A) (part : A → List Sign → List Sign → Type 0) (end : ℕ) → ((ws : List Sign) → part a ws ws) → (xs : List Sign) → Opens (λ s. Ok (a, s)) part end xs
opens_pure a part end d xs = record { is = inl (record { found = record { part = a; front = []; rest = xs; are = refl; read = λ zs same. refl }; whole = d }) }

place_next : (end : ℕ) → IsNext (place_of end)
place_next end t us zs = refl

pub opens_fail : {A : Type 0} (part : A → List Sign → List Sign → Type 0) (end : ℕ) → Grows part [] → (xs : List Sign) → Opens {A = A} (λ s. Err (place_of s.end s.signs)) part end xs
opens_fail part end g xs =
    record { is = inr (record { stops = record { front = []; rest = xs; are = refl; fails = λ zs same. ap (λ (n : ℕ). Err n) (see_same (place_of end) (place_next end) xs zs same) }; grows = g }) }

-- one part and then another, which may know the first
pub opens_bind : {A B : Type 0} (first : A → List Sign → List Sign → Type 0) (part : B → List Sign → List Sign → Type 0) (end : ℕ) (f : Stream → Result (A × Stream) ℕ) (g : A → Stream → Result (B × Stream) ℕ)
    → ((a : A) (front : List Sign) → IsWhole first a front → (xs : List Sign) → Opens (g a) (Behind part front) end xs)
    → (xs : List Sign) → Opens f first end xs → Opens (λ s. f s >>= (λ y. g y.0 y.1)) part end xs
opens_bind first part end f g og xs o =
    elim o.is [
      | inl h ↦
          opens_shift (λ s. f s >>= (λ y. g y.0 y.1)) (g h.found.part) part end h.found.front h.found.rest xs h.found.are
          (λ front rest zs are same. rw (h.found.read (front ++ zs) (same_behind h.found.rest front rest zs are same)) refl)
          (og h.found.part h.found.front h.whole h.found.rest)
      | inr h ↦
          record {
            is = inr (record {
              stops = record { front = h.stops.front; rest = h.stops.rest; are = h.stops.are; fails = λ zs same. rw (h.stops.fails zs same) refl };
              grows = grows_more part h.stops.front h.grows.more (sample (g h.grows.made) part end (h.stops.front ++ h.grows.more) (og h.grows.made (h.stops.front ++ h.grows.more) h.grows.whole []));
            });
          }
    ]

begins_there : {A : Type 0} (first : A → List Sign → List Sign → Type 0) → ((a : A) → first a [] [] → ⊥) → (a : A) (end : ℕ) (xs front rest : List Sign) → xs ≡ front ++ rest → IsWhole first a front → BeginsAt (place_of end xs) front
begins_there first starts a end xs [] rest e w = absurd (starts a (w []))
begins_there first starts a end xs (t ∷ front) rest e w = rw e refl

pub begins_more : (n : ℕ) (front ws : List Sign) → BeginsAt n front → BeginsAt n (front ++ ws)
begins_more n [] ws h = absurd h
begins_more n (t ∷ front) ws h = h

-- the second may know where the first begins
pub opens_placed : {A B : Type 0} (first : A → List Sign → List Sign → Type 0) (part : B → List Sign → List Sign → Type 0) (end : ℕ) (f : Stream → Result (A × Stream) ℕ) (g : ℕ → A → Stream → Result (B × Stream) ℕ)
    → ((a : A) → first a [] [] → ⊥)
    → ((n : ℕ) (a : A) (front : List Sign) → BeginsAt n front → IsWhole first a front → (xs : List Sign) → Opens (g n a) (Behind part front) end xs)
    → (xs : List Sign) → Opens f first end xs → Opens (λ s. f s >>= (λ y. g (place_of s.end s.signs) y.0 y.1)) part end xs
opens_placed first part end f g starts og xs o =
    elim o.is [
      | inl h ↦
          let n : ℕ = place_of end xs in
          opens_shift (λ s. f s >>= (λ y. g (place_of s.end s.signs) y.0 y.1)) (g n h.found.part) part end h.found.front h.found.rest xs h.found.are
          (λ front rest zs are same.
          let behind = same_behind h.found.rest front rest zs are same in
          rw (h.found.read (front ++ zs) behind, see_behind (place_of end) (place_next end) xs h.found.front h.found.rest (front ++ zs) h.found.are behind) refl)
          (og n h.found.part h.found.front (begins_there first starts h.found.part end xs h.found.front h.found.rest h.found.are h.whole) h.whole h.found.rest)
      | inr h ↦
          let all : List Sign = h.stops.front ++ h.grows.more in
          let n : ℕ = place_of end (all ++ []) in
          let there : BeginsAt n all = begins_there first starts h.grows.made end (all ++ []) all [] refl h.grows.whole in
          record {
            is = inr (record {
              stops = record { front = h.stops.front; rest = h.stops.rest; are = h.stops.are; fails = λ zs same. rw (h.stops.fails zs same) refl };
              grows = grows_more part h.stops.front h.grows.more (sample (g n h.grows.made) part end all (og n h.grows.made all there h.grows.whole []));
            });
          }
    ]

-- ---- choices

-- a test of the next token
pub opens_if : {A : Type 0} (part : A → List Sign → List Sign → Type 0) (end : ℕ) (test : List Sign → Bool) → IsNext test → (f g : Stream → Result (A × Stream) ℕ)
    → ((xs : List Sign) → Opens f part end xs) → ((xs : List Sign) → Opens g part end xs) → (xs : List Sign) → Opens (λ s. cond (test s.signs) (f s) (g s)) part end xs
opens_if {A} part end test next f g of og xs =
    let F : Stream → Result (A × Stream) ℕ = λ s. cond (test s.signs) (f s) (g s) in
    let Q : Bool → Type 0 = λ v. test xs ≡ v → Opens F part end xs in
    (elim (test xs) as Q [
      | true ↦ λ q. opens_shift F f part end [] xs xs refl (λ front rest zs are same. rw (see_behind test next xs front rest zs are same ∙ q) refl) (of xs)
      | false ↦ λ q. opens_shift F g part end [] xs xs refl (λ front rest zs are same. rw (see_behind test next xs front rest zs are same ∙ q) refl) (og xs)
    ]) refl

-- it is this word or mark
abbrev pub IsSign : List ℕ → Sign → Type 0
IsSign w t = (t.kind ≡ kind_of_text w) × (t.text ≡ w)

sign_is : (w : List ℕ) (t : Sign) → is_literal w t ≡ true → IsSign w t
sign_is w t e = let h = word_next w (reading zero (t ∷ [])) e in (h.0, h.1)

-- a word or mark, and what is read behind it, which may know its place
pub opens_word : {A : Type 0} (part : A → List Sign → List Sign → Type 0) (end : ℕ) (w : List ℕ) (f : ℕ → Stream → Result (A × Stream) ℕ) (g : Stream → Result (A × Stream) ℕ)
    → ((t : Sign) → IsSign w t → (xs : List Sign) → Opens (f t.at) (Behind part (t ∷ [])) end xs) → ((xs : List Sign) → Opens g part end xs)
    → (xs : List Sign) → Opens (λ s. cond (begins w s.signs) (f (place_of s.end s.signs) (rest_of s)) (g s)) part end xs
opens_word {A} part end w f g of og xs = here xs
  where
    F : Stream → Result (A × Stream) ℕ
    F s = cond (begins w s.signs) (f (place_of s.end s.signs) (rest_of s)) (g s)

    begins_next : IsNext (begins w)
    begins_next t us zs = refl

    other : (us : List Sign) → begins w us ≡ false → Opens F part end us
    other us q = opens_shift F g part end [] us us refl (λ front rest zs are same. rw (see_behind (begins w) begins_next us front rest zs are same ∙ q) refl) (og us)

    here : (us : List Sign) → Opens F part end us
    here [] = other [] refl
    here (t ∷ us) =
        let Q : Bool → Type 0 = λ v. is_literal w t ≡ v → Opens F part end (t ∷ us) in
        (elim (is_literal w t) as Q [
          | true ↦ λ q. opens_shift F (f t.at) part end (t ∷ []) us (t ∷ us) refl (λ front rest zs are same. rw q refl) (of t (sign_is w t q) us)
          | false ↦ λ q. other (t ∷ us) q
        ]) refl

-- the last word or mark that may come
pub opens_last : {A : Type 0} (part : A → List Sign → List Sign → Type 0) (end : ℕ) (w : List ℕ) (f : ℕ → Stream → Result (A × Stream) ℕ)
    → ((t : Sign) → IsSign w t → (xs : List Sign) → Opens (f t.at) (Behind part (t ∷ [])) end xs)
    → (xs : List Sign) → Opens (λ s. cond (begins w s.signs) (f (place_of s.end s.signs) (rest_of s)) (Err (place_of s.end s.signs))) part end xs
opens_last part end w f of xs =
    let word : List Sign = word_sign w zero ∷ [] in
    let g : Grows part [] = grows_more part [] word (sample (f zero) part end word (of (word_sign w zero) (refl, refl) [])) in
    opens_word part end w f (λ s. Err (place_of s.end s.signs)) of (opens_fail part end g) xs

-- this word or mark has to come
pub opens_after : {A : Type 0} (part : A → List Sign → List Sign → Type 0) (end : ℕ) (w : List ℕ) (f : Stream → Result (A × Stream) ℕ)
    → ((t : Sign) → IsSign w t → (xs : List Sign) → Opens f (Behind part (t ∷ [])) end xs) → (xs : List Sign) → Opens (λ s. literal_at w s >>= (λ t. f t)) part end xs
unfolding literal_at
opens_after {A} part end w f of xs =
    opens_equal (λ s. literal_at w s >>= (λ t. f t)) (λ s. cond (begins w s.signs) (f (rest_of s)) (Err (place_of s.end s.signs))) part
    (λ s. pushed (begins w s.signs) s) end xs (opens_last part end w (λ n. f) of xs)
  where
    pushed : (b : Bool) (s : Stream) → (cond b (Ok (rest_of s)) (Err (place_of s.end s.signs)) >>= (λ t. f t)) ≡ cond b (f (rest_of s)) (Err (place_of s.end s.signs))
    pushed true s = refl
    pushed false s = refl

-- ---- one token

pub opens_token : {A : Type 0} (part : A → List Sign → List Sign → Type 0) (F : Stream → Result (A × Stream) ℕ) (end : ℕ) (step : Sign → Option A) → F (reading end []) ≡ Err end
    → ((t : Sign) (us : List Sign) → F (reading end (t ∷ us)) ≡ token_read end t us (step t))
    → Grows part [] → ((t : Sign) (a : A) → step t ≡ Some a → IsWhole part a (t ∷ [])) → (xs : List Sign) → Opens F part end xs
opens_token part F end step none each g whole [] =
    record { is = inr (record { stops = record { front = []; rest = []; are = refl; fails = λ zs same. at_end zs same }; grows = g }) }
  where
    at_end : (zs : List Sign) → Same [] zs → F (reading end zs) ≡ Err end
    at_end [] same = none
    at_end (u ∷ us) same = absurd same
opens_token {A} part F end step none each g whole (t ∷ xs) =
    let Q : Option A → Type 0 = λ v. step t ≡ v → Opens F part end (t ∷ xs) in
    (elim (step t) as Q [
      | None ↦ λ q. record { is = inr (record { stops = record { front = []; rest = t ∷ xs; are = refl; fails = λ zs same. wrong q zs same }; grows = g }) }
      | Some a ↦ λ q. record { is = inl (record { found = record { part = a; front = t ∷ []; rest = xs; are = refl; read = λ zs same. rw (each t zs, q) refl }; whole = whole t a q }) }
    ]) refl
  where
    wrong : step t ≡ None → (zs : List Sign) → Same (t ∷ xs) zs → F (reading end zs) ≡ Err t.at
    wrong q [] same = absurd same
    wrong q (u ∷ us) same = subst (λ (v : Sign). F (reading end (v ∷ us)) ≡ Err t.at) same (rw (each t us, q) refl)

-- ---- rules put together from their parts

abbrev pub Opened : {A : Type 0} → (Stream → Result (A × Stream) ℕ) → (A → List Sign → List Sign → Type 0) → ℕ → Type 0
Opened F part end = (xs : List Sign) → Opens F part end xs

-- a part, and what is read behind it
pub part_then : {A B : Type 0} {first : A → List Sign → List Sign → Type 0} {part : B → List Sign → List Sign → Type 0} {end : ℕ} {f : Stream → Result (A × Stream) ℕ} (k : A × Stream → Result (B × Stream) ℕ)
    → Opened f first end → ((a : A) (front : List Sign) → IsWhole first a front → Opened (λ s. k (a, s)) (Behind part front) end) → Opened (λ s. f s >>= k) part end
part_then {first = first} {part = part} {end = end} {f = f} k o og xs = opens_bind first part end f (λ a s. k (a, s)) og xs (o xs)

-- a word or mark that has to come, and what is read behind it
pub word_then : {A : Type 0} {part : A → List Sign → List Sign → Type 0} {end : ℕ} {w : List ℕ} {f : Stream → Result (A × Stream) ℕ}
    → ((t : Sign) → IsSign w t → Opened f (Behind part (t ∷ [])) end) → Opened (λ s. literal_at w s >>= f) part end
word_then {part = part} {end = end} {w = w} {f = f} of xs = opens_after part end w f of xs

-- nothing more
pub all_read : {A : Type 0} {a : A} {part : A → List Sign → List Sign → Type 0} {end : ℕ} → ((ws : List Sign) → part a ws ws) → Opened (λ s. Ok (a, s)) part end
all_read {a = a} {part = part} {end = end} d xs = opens_pure a part end d xs

-- a rule of which each text is one of another rule
pub read_as : {A : Type 0} {first part : A → List Sign → List Sign → Type 0} {end : ℕ} {F : Stream → Result (A × Stream) ℕ}
    → Opened F first end → ((a : A) (front : List Sign) → IsWhole first a front → IsWhole part a front) → Opened F part end
read_as {first = first} {part = part} {end = end} {F = F} o into xs = opens_weak first part end F into xs (o xs)

-- one of two, by a test of the next token
pub either : {A : Type 0} {part : A → List Sign → List Sign → Type 0} {end : ℕ} {f g : Stream → Result (A × Stream) ℕ} (test : List Sign → Bool) → IsNext test
    → Opened f part end → Opened g part end → Opened (λ s. cond (test s.signs) (f s) (g s)) part end
either {part = part} {end = end} {f = f} {g = g} test next of og xs = opens_if part end test next f g of og xs

-- what is read behind a word or mark, or else
pub choice : {A : Type 0} {part : A → List Sign → List Sign → Type 0} {end : ℕ} {g : Stream → Result (A × Stream) ℕ} (w : List ℕ) (f : ℕ → Stream → Result (A × Stream) ℕ)
    → ((t : Sign) → IsSign w t → Opened (f t.at) (Behind part (t ∷ [])) end) → Opened g part end → Opened (λ s. cond (begins w s.signs) (f (place_of s.end s.signs) (rest_of s)) (g s)) part end
choice {part = part} {end = end} {g = g} w f of og xs = opens_word part end w f g of og xs

pub last_choice : {A : Type 0} {part : A → List Sign → List Sign → Type 0} {end : ℕ} (w : List ℕ) (f : ℕ → Stream → Result (A × Stream) ℕ)
    → ((t : Sign) → IsSign w t → Opened (f t.at) (Behind part (t ∷ [])) end) → Opened (λ s. cond (begins w s.signs) (f (place_of s.end s.signs) (rest_of s)) (Err (place_of s.end s.signs))) part end
last_choice {part = part} {end = end} w f of xs = opens_last part end w f of xs

-- a word or mark alone, or else
abbrev pub IsAlone : {A : Type 0} → (A → List Sign → List Sign → Type 0) → List ℕ → A → Type 0
IsAlone part w a = (t : Sign) → IsSign w t → (ws : List Sign) → part a (t ∷ ws) ws

pub alone : {A : Type 0} {part : A → List Sign → List Sign → Type 0} {end : ℕ} {g : Stream → Result (A × Stream) ℕ} (w : List ℕ) (a : A) → IsAlone part w a
    → Opened g part end → Opened (λ s. cond (begins w s.signs) (Ok (a, rest_of s)) (g s)) part end
alone {part = part} {end = end} {g = g} w a is og xs = opens_word part end w (λ n s. Ok (a, s)) g (λ t e. opens_pure a (Behind part (t ∷ [])) end (is t e)) og xs

pub last_alone : {A : Type 0} {part : A → List Sign → List Sign → Type 0} {end : ℕ} (w : List ℕ) (a : A) → IsAlone part w a
    → Opened (λ s. cond (begins w s.signs) (Ok (a, rest_of s)) (Err (place_of s.end s.signs))) part end
last_alone {part = part} {end = end} w a is xs = opens_last part end w (λ n s. Ok (a, s)) (λ t e. opens_pure a (Behind part (t ∷ [])) end (is t e)) xs

-- ---- what is read is a text of the rule

read_is : {A : Type 0} (r : Result (A × Stream) ℕ) (x y : A × Stream) → r ≡ Ok x → r ≡ Ok y → x ≡ y
read_is r x y e f = ok_is x y (sym e ∙ f)

pub opens_sound : {A : Type 0} (F : Stream → Result (A × Stream) ℕ) (part : A → List Sign → List Sign → Type 0) (end : ℕ) (xs : List Sign) (y : A × Stream) → Opens F part end xs → F (reading end xs) ≡ Ok y → part y.0 xs y.1.signs
opens_sound {A} F part end xs y o e =
    elim o.is [
      | inl h ↦
          let f = h.found in
          let here : F (reading end xs) ≡ Ok (f.part, reading end f.rest) = subst (λ (us : List Sign). F (reading end us) ≡ Ok (f.part, reading end f.rest)) (sym f.are) (f.read f.rest (same_self f.rest)) in
          let derived : part f.part xs f.rest = subst (λ (us : List Sign). part f.part us f.rest) (sym f.are) (h.whole f.rest) in
          subst (λ (z : A × Stream). part z.0 xs z.1.signs) (read_is (F (reading end xs)) (f.part, reading end f.rest) y here e) derived
      | inr w ↦
          let h = w.stops in
          let here : F (reading end xs) ≡ Err (place_of end h.rest) = subst (λ (us : List Sign). F (reading end us) ≡ Err (place_of end h.rest)) (sym h.are) (h.fails h.rest (same_self h.rest)) in
          absurd (no_value (place_of end h.rest) y (sym here ∙ e))
    ]
