-- What a step comes to, by the answer to its edit.
use Rattle.std.proofs.Common.{◌≡◌, ◌⊎◌, ℕ, ◌+◌, pos, List, [], ◌∷◌, Bool, true, false, Option, Some, None, Result, Ok, Err, inl, inr, refl, sym, ap, ◌∙◌, subst}
use Rattle.std.specs.Prelude.{is_some, not, if◌then◌else◌}
use Rattle.ild_data.specs.Key.{put, value_at, without}
use Rattle.ild_data.specs.Spell.{id_of}
use Rattle.ild_edges.specs.Store.{Moment}
use Rattle.ild_generator.specs.Generated.{Generated, deleted, set_to, with_set, with_deletion, refusal}
use Rattle.ild_generator.specs.Laws.{step_edit, judged_map}
use Rattle.ild_generator.specs.Numbers.{is_deletion, key_of}
use Rattle.ild_generator.specs.Schema.{generator_rows, generator_type}
use Rattle.ild_path_edits.specs.Edit.{set_at, del_at}
use Rattle.ild_path_edits.specs.Judged.{Tests, are_sized, unless_judged}
use Rattle.ild_run_edit.specs.Edits.{edit_of}
use Rattle.ild_path_place.specs.declared.verb.Verb.{Verb}
use Rattle.ild_path_place.specs.declared.verb.Verb.TheVariants as V
use Rattle.ild_run_generate.specs.Steps.{IsAsked, counts_of, one_more, one_absent}
use Rattle.ild_run_generate.specs.declared.asking.Asked.{Asked}
use Rattle.ild_run_generate.specs.declared.summary.Counts.{Counts}
use Rattle.ild_run_standing.specs.Standing.{IsHeldAt}
use Rattle.ild_schema.specs.Slots.{plainly}
use Rattle.ild_schema.specs.Value.{Value}
use Rattle.ild_script.specs.declared.reply.No.{No}
use Rattle.ild_script.specs.declared.reply.No.TheVariants as N
use Rattle.ild_script_meaning.specs.PlainMap.{as_value}
use Rattle.ild_script_meaning.specs.PlainValue.{Value as Entries}
use Rattle.ild_typed.specs.Judged.{exhausts}
use Rattle.ild_typed.specs.Stands.{bare}
use Rattle.ild_view_doc.specs.declared.doc.Doc.{Doc}

-- ---- the edit that was asked

edit_same : (b : Bool) (verb : Verb) (path : List (List ℕ)) (json : List ℕ) (k : List (List ℕ)) → verb ≡ (if b then V.Del else V.Set) → path ≡ k → edit_of verb path json ≡ (if b then del_at k else set_at k json)
edit_same true verb path json k is to = ap (λ x. edit_of x path json) is ∙ ap (λ p. del_at p) to
edit_same false verb path json k is to = ap (λ x. edit_of x path json) is ∙ ap (λ p. set_at p json) to

pub asked_is : (x i : ℕ) (a : Asked) → IsAsked x i a → edit_of a.verb a.path a.json ≡ step_edit x a.json
asked_is x i a asked = edit_same (is_deletion x) a.verb a.path a.json (key_of x ∷ []) asked.verb asked.path

-- ---- why a map is refused

abbrev ok_of : Value → Result Value No
ok_of v = Ok v

abbrev err_of : No → Result Value No
err_of x = Err x

refused_by : (d z : Bool) (x : No) → (if d then Some N.Exhausted else if not z then Some N.Size else None) ≡ Some x → (x ≡ N.Exhausted) ⊎ (x ≡ N.Size)
refused_by true z x e = inl (let f = sym e in cc)
refused_by false false x e = inr (let f = sym e in cc)
refused_by false true x e = absurd cc

why_refused : (es : Entries) (x : No) → refusal es ≡ Some x → (x ≡ N.Exhausted) ⊎ (x ≡ N.Size)
why_refused es x e = refused_by (exhausts id_of generator_rows (plainly generator_type) (as_value es)) (are_sized bare id_of generator_rows generator_type (as_value es)) x e

judged_by : (es : Entries) (o : Option No) (x : No) → unless_judged (as_value es) o ≡ Err x → o ≡ Some x
judged_by es None x e = absurd cc
judged_by es (Some y) x e = let f : err_of y ≡ err_of x = e in cc

why_judged : (es : Entries) (x : No) → judged_map es ≡ Err x → (x ≡ N.Exhausted) ⊎ (x ≡ N.Size)
why_judged es x e = why_refused es x (judged_by es (refusal es) x e)

not_path : (x : No) → (x ≡ N.Exhausted) ⊎ (x ≡ N.Size) → x ≡ N.Path → ⊥
not_path x (inl is) path = let e : N.Path ≡ N.Exhausted = sym path ∙ is in cc
not_path x (inr is) path = let e : N.Path ≡ N.Size = sym path ∙ is in cc

-- ---- the state that a step comes to

module _ (tests : Tests) (s : Generated) (i : ℕ) (n : Moment) (new : Doc) where
  abbrev k : List ℕ
  k = key_of s.number

  abbrev HeldAt : Entries → Type 0
  HeldAt es = IsHeldAt id_of new tests n (as_value es)

  abbrev pub ComesTo : Counts → Generated → Type 0
  ComesTo c t = (c ≡ counts_of t) × HeldAt t.entries

  moved : (es : Entries) (c : Value) → ok_of (as_value es) ≡ ok_of c → IsHeldAt id_of new tests n c → HeldAt es
  moved es c e held = subst (λ (x : Value). IsHeldAt id_of new tests n x) (let f = sym e in cc) held

  set_done : (es : Entries) (o : Option No) (c : Value) → unless_judged (as_value es) o ≡ Ok c → IsHeldAt id_of new tests n c → ComesTo (one_more false (counts_of s)) (with_set s es o)
  set_done es None c e held = (refl, moved es c e held)
  set_done es (Some x) c e held = absurd cc

  set_left : (es : Entries) (o : Option No) (x : No) → unless_judged (as_value es) o ≡ Err x → HeldAt s.entries → ComesTo (counts_of s) (with_set s es o)
  set_left es None x e held = absurd cc
  set_left es (Some y) x e held = (refl, held)

  gone_done : (es : Entries) (o : Option No) (c : Value) → unless_judged (as_value es) o ≡ Ok c → IsHeldAt id_of new tests n c → ComesTo (one_more true (counts_of s)) (with_deletion s es o)
  gone_done es None c e held = (refl, moved es c e held)
  gone_done es (Some x) c e held = absurd cc

  gone_left : (es : Entries) (o : Option No) (x : No) → unless_judged (as_value es) o ≡ Err x → HeldAt s.entries → ComesTo (counts_of s) (with_deletion s es o)
  gone_left es None x e held = absurd cc
  gone_left es (Some y) x e held = (refl, held)

  abbrev there_makes : Bool → Result Value No
  there_makes there = if there then judged_map (without k s.entries) else Err N.Path

  abbrev there_next : Bool → Generated
  there_next there = if there then with_deletion s (without k s.entries) (refusal (without k s.entries)) else record s { absent = s.absent + 1 }

  abbrev makes : Bool → Result Value No
  makes b = if b then there_makes (is_some (value_at k s.entries)) else judged_map (put k (pos i) s.entries)

  abbrev next : Bool → Generated
  next b = if b then deleted s k else set_to s k i

  there_done : (there : Bool) (c : Value) → there_makes there ≡ Ok c → IsHeldAt id_of new tests n c → ComesTo (one_more true (counts_of s)) (there_next there)
  there_done true c e held = gone_done (without k s.entries) (refusal (without k s.entries)) c e held
  there_done false c e held = absurd cc

  there_absent : (there : Bool) → there_makes there ≡ Err N.Path → HeldAt s.entries → ComesTo (one_absent true (counts_of s)) (there_next there)
  there_absent true e held = absurd (not_path N.Path (why_judged (without k s.entries) N.Path e) refl)
  there_absent false e held = (refl, held)

  there_left : (there : Bool) (x : No) → (x ≡ N.Path → ⊥) → there_makes there ≡ Err x → HeldAt s.entries → ComesTo (counts_of s) (there_next there)
  there_left true x other e held = gone_left (without k s.entries) (refusal (without k s.entries)) x e held
  there_left false x other e held = absurd (other (let f : err_of x ≡ err_of N.Path = sym e in cc))

  there_why : (there : Bool) (x : No) → there_makes there ≡ Err x → (x ≡ N.Path) ⊎ ((x ≡ N.Exhausted) ⊎ (x ≡ N.Size))
  there_why true x e = inr (why_judged (without k s.entries) x e)
  there_why false x e = inl (let f : err_of x ≡ err_of N.Path = sym e in cc)

  pub done : (b : Bool) (c : Value) → makes b ≡ Ok c → IsHeldAt id_of new tests n c → ComesTo (one_more b (counts_of s)) (next b)
  done true c e held = there_done (is_some (value_at k s.entries)) c e held
  done false c e held = set_done (put k (pos i) s.entries) (refusal (put k (pos i) s.entries)) c e held

  pub absent : (b : Bool) → makes b ≡ Err N.Path → HeldAt s.entries → ComesTo (one_absent b (counts_of s)) (next b)
  absent true e held = there_absent (is_some (value_at k s.entries)) e held
  absent false e held = set_left (put k (pos i) s.entries) (refusal (put k (pos i) s.entries)) N.Path e held

  pub left : (b : Bool) (x : No) → (x ≡ N.Path → ⊥) → makes b ≡ Err x → HeldAt s.entries → ComesTo (counts_of s) (next b)
  left true x other e held = there_left (is_some (value_at k s.entries)) x other e held
  left false x other e held = set_left (put k (pos i) s.entries) (refusal (put k (pos i) s.entries)) x e held

  pub why : (b : Bool) (x : No) → makes b ≡ Err x → (x ≡ N.Path) ⊎ ((x ≡ N.Exhausted) ⊎ (x ≡ N.Size))
  why true x e = there_why (is_some (value_at k s.entries)) x e
  why false x e = inr (why_judged (put k (pos i) s.entries) x e)
