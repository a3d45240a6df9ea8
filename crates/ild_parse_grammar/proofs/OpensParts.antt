-- References, fields and members go on to a text of their rule.
use Rattle.std.proofs.Common.{ℕ, zero, suc, ◌+◌, Bool, true, false, cond, List, [], ◌∷◌, ◌++◌, Result, Ok, Err, Option, Some, None, refl, ap, arith, ◌≡◌, ◌≤◌}
use Rattle.std.specs.Prelude.{codes, count_by, if◌then◌else◌}
use Rattle.ild_parse_grammar.specs.declared.ast.Name.{Name}
use Rattle.ild_parse_grammar.specs.declared.ast.Text.{Text}
use Rattle.ild_parse_grammar.specs.declared.ast.Implicit.{Implicit}
use Rattle.ild_parse_grammar.specs.declared.ast.Field.{Field}
use Rattle.ild_parse_grammar.specs.declared.ast.Opt.{Opt}
use Rattle.ild_parse_grammar.specs.declared.ast.Opt.TheVariants as OV
use Rattle.ild_parse_grammar.specs.declared.ast.Implicit.TheVariants as IV
use Rattle.ild_parse_grammar.specs.declared.ast.Member.{Member}
use Rattle.ild_parse_grammar.specs.declared.ast.Target.{Target}
use Rattle.ild_parse_grammar.specs.declared.ast.Target.TheVariants as TV
use Rattle.ild_parse_grammar.specs.declared.ast.Mark.{Mark}
use Rattle.ild_parse_grammar.specs.declared.ast.Mark.TheVariants as MV
use Rattle.ild_parse_grammar.specs.declared.ast.KindWord.{KindWord}
use Rattle.ild_parse_grammar.specs.declared.ast.KindWord.TheVariants as KV
use Rattle.ild_parse_grammar.specs.Reference.{Reference, refer, Refers}
use Rattle.ild_parse_grammar.specs.Sign.{Sign, is_text, is_number}
use Rattle.ild_parse_grammar.proofs.Stream.{Stream, place, begins, next_is, rest_of}
use Rattle.ild_parse_grammar.proofs.Read.{◌>>=◌, literal_at, type_name_at, name_at, text_at}
use Rattle.ild_parse_grammar.proofs.Refer.{behind_word, named_at, link_at, ref_with, list_with, map_with, inline_at, ref_at}
use Rattle.ild_parse_grammar.specs.Derive.{deepest}
use Rattle.ild_parse_grammar.proofs.Part.{implicit_at, rename_opt_at, implicit_opt_at, opt_at, other_opt_at, opts_behind, opts_at, field_at, target_at, kind_of, kind_mark, mark_at, member_at, quoted_at, enum_member_at}
use Rattle.ild_parse_grammar.specs.Derive.{IsOptional, IsReference, IsInline}
use Rattle.ild_parse_grammar.specs.DerivePart.{IsImplicit, IsOpt, renames, is_implicit, AreOpts, IsField, IsTarget, IsMark, IsMember, IsQuoted, IsEnumMember}
use Rattle.ild_parse_grammar.proofs.Results.{done}
use Rattle.std.proofs.lemmas.Bool.{false≢true}
use Rattle.ild_data.proofs.Gets.{next_is as one_more}
use Rattle.ild_parse_grammar.proofs.Shorter.{inline_shorter, target_shorter}
use Rattle.ild_parse_grammar.proofs.Opens.{Opens, Opened, Behind, IsSign, IsWhole, begins_more, opens_equal, opens_pure, opens_bind, opens_placed, opens_word, opens_after, part_then, word_then, all_read, read_as, either, choice, alone, last_alone}
use Rattle.ild_parse_grammar.proofs.OpensForms.{type-opens, name-opens, text-opens, number-opens}

-- ---- references

pub named-opens : (room end : ℕ) → Opened named_at (IsInline room) end
unfolding named_at
named-opens room end = part_then _ (type-opens end) (λ n front d. all_read d)

pub link-opens : (room end : ℕ) → Opened link_at (IsInline (suc room)) end
unfolding link_at
link-opens room end = word_then (λ t e. part_then _ (type-opens end) (λ n front d. all_read (λ ws. (room, one_more room, (front ++ ws, (e.0, e.1, refl), d ws)))))

-- behind `nullable` or without it
ref_from : (Stream → Result (Refers × Stream) ℕ) → ℕ → Bool → Stream → Result (Reference × Stream) ℕ
ref_from inline at nullable s = inline s >>= (λ i. Ok (refer at nullable (place s) i.0, i.1))

ref_is : (inline : Stream → Result (Refers × Stream) ℕ) (s : Stream) → ref_with inline s ≡ cond (next_is (codes "nullable") s) (ref_from inline (place s) true (rest_of s)) (ref_from inline (place s) false s)
unfolding ref_with ref_from
ref_is inline s =
    let Q : Bool → Type 0 = λ v. (inline (cond v (rest_of s) s) >>= (λ i. done {A = Reference × Stream} (refer (place s) v (place (cond v (rest_of s) s)) i.0, i.1))) ≡ cond v (ref_from inline (place s) true (rest_of s)) (ref_from inline (place s) false s) in
    elim (next_is (codes "nullable") s) as Q [ true ↦ refl | false ↦ refl ]

-- a reference or a target has a token or more
nothing_inline : (room : ℕ) (r : Refers) → IsInline room r [] [] → ⊥
nothing_inline room r h = absurd (omega (arith, inline_shorter room r [] [] h))

pub ref-opens : (room : ℕ) (inline : Stream → Result (Refers × Stream) ℕ) (end : ℕ) → ((xs : List Sign) → Opens inline (IsInline room) end xs) → (xs : List Sign) → Opens (ref_with inline) (IsReference room) end xs
unfolding ref_from
ref-opens room inline end each xs =
    opens_equal (ref_with inline) (λ s. cond (next_is (codes "nullable") s) (ref_from inline (place s) true (rest_of s)) (ref_from inline (place s) false s)) (IsReference room) (ref_is inline) end xs
    (opens_word (IsReference room) end (codes "nullable") (λ n s. ref_from inline n true s) (λ s. ref_from inline (place s) false s) with_word without xs)
  where
    with_word : (t : Sign) → IsSign (codes "nullable") t → (us : List Sign) → Opens (ref_from inline t.at true) (Behind (IsReference room) (t ∷ [])) end us
    with_word t e us =
        opens_placed (IsInline room) (Behind (IsReference room) (t ∷ [])) end inline (λ n i s. Ok (refer t.at true n i, s)) (nothing_inline room)
        (λ n i front b d. opens_pure (refer t.at true n i) (Behind (Behind (IsReference room) (t ∷ [])) front) end (λ ws. (front ++ ws, (e.0, e.1, refl), refl, begins_more n front ws b, d ws))) us (each us)

    without : (us : List Sign) → Opens (λ s. ref_from inline (place s) false s) (IsReference room) end us
    without us =
        opens_placed (IsInline room) (IsReference room) end inline (λ n i s. Ok (refer n false n i, s)) (nothing_inline room)
        (λ n i front b d. opens_pure (refer n false n i) (Behind (IsReference room) front) end (λ ws. (front ++ ws, refl, begins_more n front ws b, begins_more n front ws b, d ws))) us (each us)

pub list_with-opens : (room : ℕ) (inline : Stream → Result (Refers × Stream) ℕ) (end : ℕ) → Opened inline (IsInline room) end → Opened (list_with inline) (IsInline (suc room)) end
unfolding list_with
list_with-opens room inline end each =
    word_then (λ t e. part_then _ (ref-opens room inline end each) (λ r front d. word_then (λ u c. all_read (λ ws. (room, one_more room, (front ++ (u ∷ ws), u ∷ ws, (e.0, e.1, refl), d (u ∷ ws), (c.0, c.1, refl)))))))

pub map_with-opens : (room : ℕ) (inline : Stream → Result (Refers × Stream) ℕ) (end : ℕ) → Opened inline (IsInline room) end → Opened (map_with inline) (IsInline (suc room)) end
unfolding map_with
map_with-opens room inline end each =
    word_then (λ t e. part_then _ (type-opens end) (λ k front d. word_then (λ u c. part_then _ (ref-opens room inline end each) (λ r other o. word_then (λ v f. all_read (λ ws.
    let last : List Sign = other ++ (v ∷ ws) in
    (room, one_more room, (front ++ (u ∷ last), u ∷ last, last, v ∷ ws, (e.0, e.1, refl), d (u ∷ last), (c.0, c.1, refl), o (v ∷ ws), (f.0, f.1, refl)))))))))

pub inline-opens : (room end : ℕ) → Opened (inline_at room) (IsInline room) end
unfolding inline_at
inline-opens zero end = named-opens zero end
inline-opens (suc room) end =
    either (begins (codes "&")) (λ t us zs. refl) (link-opens room end)
    (either (begins (codes "[")) (λ t us zs. refl) (list_with-opens room (inline_at room) end (inline-opens room end))
    (either (begins (codes "{")) (λ t us zs. refl) (map_with-opens room (inline_at room) end (inline-opens room end)) (named-opens (suc room) end)))

pub reference-opens : (end : ℕ) → Opened (ref_at deepest) (IsReference deepest) end
reference-opens end = ref-opens deepest (inline_at deepest) end (inline-opens deepest end)

-- ---- fields

-- an opt that renames, or doesn't, or differs from another
abbrev IsRename : Opt → List Sign → List Sign → Type 0
IsRename o xs ys = IsOpt o xs ys × (renames o ≡ true)

abbrev IsOther : Opt → List Sign → List Sign → Type 0
IsOther o xs ys = IsOpt o xs ys × (is_implicit o ≡ true)

pub implicit-opens : (end : ℕ) → Opened implicit_at IsImplicit end
unfolding implicit_at
implicit-opens end =
    either is_text (λ t us zs. refl) (part_then _ (text-opens end) (λ x front d. all_read d))
    (either is_number (λ t us zs. refl) (part_then _ (number-opens end) (λ n front d. all_read d))
    (alone (codes "true") IV.True (λ t e ws. (e.0, e.1, refl)) (last_alone (codes "false") IV.False (λ t e ws. (e.0, e.1, refl)))))

pub rename_opt-opens : (end : ℕ) → Opened rename_opt_at IsRename end
unfolding rename_opt_at
rename_opt-opens end = word_then (λ t e. part_then _ (text-opens end) (λ x front d. all_read (λ ws. ((front ++ ws, (e.0, e.1, refl), d ws), refl))))

pub implicit_opt-opens : (end : ℕ) → Opened implicit_opt_at IsOther end
unfolding implicit_opt_at
implicit_opt-opens end = word_then (λ t e. part_then _ (implicit-opens end) (λ v front d. all_read (λ ws. ((front ++ ws, (e.0, e.1, refl), d ws), refl))))

pub opt-opens : (end : ℕ) → Opened opt_at IsOpt end
unfolding opt_at
opt-opens end =
    either (begins (codes "rename")) (λ t us zs. refl) (read_as (rename_opt-opens end) (λ o front d ws. (d ws).0)) (read_as (implicit_opt-opens end) (λ o front d ws. (d ws).0))

-- two opts that differ
abbrev AreTwo : Opt → Opt → Type 0
AreTwo a b = (count_by renames (a ∷ b ∷ []) ≤ 1) × (count_by is_implicit (a ∷ b ∷ []) ≤ 1)

rename_then : (t : Text) (b : Opt) → is_implicit b ≡ true → AreTwo (OV.Rename t) b
rename_then t (OV.Rename u) h = absurd (false≢true h)
rename_then t (OV.Implicit v) h = (omega arith, omega arith)

implicit_then : (v : Implicit) (b : Opt) → renames b ≡ true → AreTwo (OV.Implicit v) b
implicit_then v (OV.Rename u) h = (omega arith, omega arith)
implicit_then v (OV.Implicit w) h = absurd (false≢true h)

one_opt : (a : Opt) → (count_by renames (a ∷ []) ≤ 1) × (count_by is_implicit (a ∷ []) ≤ 1)
one_opt (OV.Rename t) = (omega arith, omega arith)
one_opt (OV.Implicit v) = (omega arith, omega arith)

abbrev IsSecond : Opt → Opt → List Sign → List Sign → Type 0
IsSecond first o xs ys = IsOpt o xs ys × AreTwo first o

pub other_opt-opens : (p : Opt) (end : ℕ) → Opened (other_opt_at p) (IsSecond p) end
unfolding other_opt_at
other_opt-opens (OV.Rename t) end = read_as (implicit_opt-opens end) (λ o front d ws. ((d ws).0, rename_then t o (d ws).1))
other_opt-opens (OV.Implicit v) end = read_as (rename_opt-opens end) (λ o front d ws. ((d ws).0, implicit_then v o (d ws).1))

pub opts-opens : (end : ℕ) → Opened opts_at AreOpts end
unfolding opts_at opts_behind
opts-opens end =
    choice (codes "(") (λ n s. opt_at s >>= (λ first. opts_behind first.0 first.1))
    (λ t e. part_then _ (opt-opens end) (λ p front d.
    choice (codes ")") (λ n s. Ok (p ∷ [], s))
    (λ u c. all_read (λ ws. (front ++ (u ∷ ws), u ∷ ws, (e.0, e.1, refl), (u ∷ ws, d (u ∷ ws), refl), (c.0, c.1, refl), (one_opt p).0, (one_opt p).1)))
    (part_then _ (other_opt-opens p end) (λ q other o. word_then (λ u c. all_read (λ ws.
    let last : List Sign = other ++ (u ∷ ws) in
    let second = o (u ∷ ws) in
    (front ++ last, u ∷ ws, (e.0, e.1, refl), (last, d last, (u ∷ ws, second.0, refl)), (c.0, c.1, refl), second.1.0, second.1.1)))))))
    (all_read (λ ws. refl))

-- a field, behind its name and behind `optional`
field_from : Name → Bool → Stream → Result (Field × Stream) ℕ
field_from n b s = (ref_at deepest) s >>= (λ r. opts_at r.1 >>= (λ os. Ok (record { name = n; optional = b; value = r.0; opts = os.0 }, os.1)))

behind_name : Name → Stream → Result (Field × Stream) ℕ
behind_name n s = cond (next_is (codes "optional") s) (field_from n true (rest_of s)) (field_from n false s)

field_is : (s : Stream) → field_at s ≡ (name_at s >>= (λ n. behind_name n.0 n.1))
unfolding field_at field_from behind_name
field_is s = each (name_at s)
  where
    from : (n : Name) (t : Stream) → (ref_at deepest (behind_word (codes "optional") t) >>= (λ r. opts_at r.1 >>= (λ q. done {A = Field × Stream} (record { name = n; optional = next_is (codes "optional") t; value = r.0; opts = q.0 }, q.1)))) ≡ behind_name n t
    from n t =
        let Q : Bool → Type 0 = λ v. (ref_at deepest (cond v (rest_of t) t) >>= (λ r. opts_at r.1 >>= (λ q. done {A = Field × Stream} (record { name = n; optional = v; value = r.0; opts = q.0 }, q.1)))) ≡ cond v (field_from n true (rest_of t)) (field_from n false t) in
        elim (next_is (codes "optional") t) as Q [ true ↦ refl | false ↦ refl ]

    each : (r : Result (Name × Stream) ℕ) → (r >>= (λ n. ref_at deepest (behind_word (codes "optional") n.1) >>= (λ r. opts_at r.1 >>= (λ q. done {A = Field × Stream} (record { name = n.0; optional = next_is (codes "optional") n.1; value = r.0; opts = q.0 }, q.1))))) ≡ (r >>= (λ n. behind_name n.0 n.1))
    each (Ok n) = from n.0 n.1
    each (Err e) = refl

-- behind the name, with `optional` or without it
value-opens : (end : ℕ) (n : Name) (b : Bool) (part : Field → List Sign → List Sign → Type 0)
    → ((r : Reference) (os : List Opt) (front other : List Sign) → IsWhole (IsReference deepest) r front → IsWhole AreOpts os other
    → (ws : List Sign) → part (record { name = n; optional = b; value = r; opts = os }) (front ++ (other ++ ws)) ws)
    → Opened (field_from n b) part end
unfolding field_from
value-opens end n b part whole = part_then _ (reference-opens end) (λ r front d. part_then _ (opts-opens end) (λ os other o. all_read (whole r os front other d o)))

pub field-opens : (end : ℕ) → Opened field_at IsField end
unfolding behind_name
field-opens end xs =
    opens_equal field_at (λ s. name_at s >>= (λ n. behind_name n.0 n.1)) IsField field_is end xs
    (part_then (λ n. behind_name n.0 n.1) (name-opens end) (λ n front d.
    choice (codes "optional") (λ at s. field_from n true s)
    (λ t e. value-opens end n true (Behind (Behind IsField front) (t ∷ [])) (λ r os more other m o ws.
    let last : List Sign = more ++ (other ++ ws) in
    (t ∷ last, last, other ++ ws, d (t ∷ last), (e.0, e.1, refl), m (other ++ ws), o ws)))
    (value-opens end n false (Behind IsField front) (λ r os more other m o ws.
    let last : List Sign = more ++ (other ++ ws) in
    (last, last, other ++ ws, d last, refl, m (other ++ ws), o ws)))) xs)

-- ---- members

pub target-opens : (end : ℕ) → Opened target_at IsTarget end
unfolding target_at
target-opens end =
    choice (codes "&") (λ n s. type_name_at s >>= (λ m. Ok (TV.Link m.0, m.1))) (λ t e. part_then _ (type-opens end) (λ m front d. all_read (λ ws. (front ++ ws, (e.0, e.1, refl), d ws))))
    (part_then _ (type-opens end) (λ m front d. all_read d))

kinds : Stream → Result (Option Mark × Stream) ℕ
kinds s =
    if next_is (codes "null") s then Ok (Some (MV.Kind KV.Null), rest_of s)
    else if next_is (codes "bool") s then Ok (Some (MV.Kind KV.Bool), rest_of s)
    else if next_is (codes "int") s then Ok (Some (MV.Kind KV.Int), rest_of s)
    else if next_is (codes "float") s then Ok (Some (MV.Kind (KV.Float (place s))), rest_of s)
    else if next_is (codes "string") s then Ok (Some (MV.Kind KV.String), rest_of s)
    else if next_is (codes "bytes") s then Ok (Some (MV.Kind KV.Bytes), rest_of s)
    else if next_is (codes "list") s then Ok (Some (MV.Kind KV.List), rest_of s)
    else if next_is (codes "map") s then Ok (Some (MV.Kind KV.Map), rest_of s)
    else if next_is (codes "link") s then Ok (Some (MV.Kind KV.Link), rest_of s)
    else Ok (None, s)

-- a choice of kinds is a choice of marks
chosen_mark : (b : Bool) (k : KindWord) (more : Option KindWord) (s : Stream) (r : Result (Option Mark × Stream) ℕ) → done {A = Option Mark × Stream} (kind_mark more s) ≡ r
    → done {A = Option Mark × Stream} (kind_mark (cond b (Some k) more) s) ≡ cond b (Ok (Some (MV.Kind k), rest_of s)) r
chosen_mark true k more s r e = refl
chosen_mark false k more s r e = e

kinds_is : (s : Stream) → done {A = Option Mark × Stream} (kind_mark (kind_of s) s) ≡ kinds s
unfolding kind_of kinds
kinds_is s =
    chosen_mark (next_is (codes "null") s) KV.Null _ s _
    (chosen_mark (next_is (codes "bool") s) KV.Bool _ s _
    (chosen_mark (next_is (codes "int") s) KV.Int _ s _
    (chosen_mark (next_is (codes "float") s) (KV.Float (place s)) _ s _
    (chosen_mark (next_is (codes "string") s) KV.String _ s _
    (chosen_mark (next_is (codes "bytes") s) KV.Bytes _ s _
    (chosen_mark (next_is (codes "list") s) KV.List _ s _
    (chosen_mark (next_is (codes "map") s) KV.Map _ s _
    (chosen_mark (next_is (codes "link") s) KV.Link _ s _
    refl))))))))

marks : Stream → Result (Option Mark × Stream) ℕ
marks s = cond (is_text s.signs) (text_at s >>= (λ t. Ok (Some (MV.Text t.0), t.1))) (kinds s)

mark_is : (s : Stream) → mark_at s ≡ marks s
unfolding mark_at marks
mark_is s = ap (λ (r : Result (Option Mark × Stream) ℕ). cond (is_text s.signs) (text_at s >>= (λ t. Ok (Some (MV.Text t.0), t.1))) r) (kinds_is s)

kinds-opens : (end : ℕ) → Opened kinds (IsOptional IsMark) end
unfolding kinds
kinds-opens end =
    alone (codes "null") (Some (MV.Kind KV.Null)) (λ t e ws. (e.0, e.1, refl))
    (alone (codes "bool") (Some (MV.Kind KV.Bool)) (λ t e ws. (e.0, e.1, refl))
    (alone (codes "int") (Some (MV.Kind KV.Int)) (λ t e ws. (e.0, e.1, refl))
    (choice (codes "float") (λ n s. Ok (Some (MV.Kind (KV.Float n)), s)) (λ t e. all_read (λ ws. ((e.0, e.1, refl), refl)))
    (alone (codes "string") (Some (MV.Kind KV.String)) (λ t e ws. (e.0, e.1, refl))
    (alone (codes "bytes") (Some (MV.Kind KV.Bytes)) (λ t e ws. (e.0, e.1, refl))
    (alone (codes "list") (Some (MV.Kind KV.List)) (λ t e ws. (e.0, e.1, refl))
    (alone (codes "map") (Some (MV.Kind KV.Map)) (λ t e ws. (e.0, e.1, refl))
    (alone (codes "link") (Some (MV.Kind KV.Link)) (λ t e ws. (e.0, e.1, refl))
    (all_read (λ ws. refl))))))))))

pub mark-opens : (end : ℕ) → Opened mark_at (IsOptional IsMark) end
unfolding marks
mark-opens end xs = opens_equal mark_at marks (IsOptional IsMark) mark_is end xs (either is_text (λ t us zs. refl) (part_then _ (text-opens end) (λ x front d. all_read d)) (kinds-opens end) xs)

nothing_target : (a : Target) → IsTarget a [] [] → ⊥
nothing_target a h = absurd (omega (arith, target_shorter a [] [] h))

pub member-opens : (end : ℕ) (xs : List Sign) → Opens member_at IsMember end xs
unfolding member_at
member-opens end xs =
    opens_after IsMember end (codes "|") (λ t. target_at t >>= (λ x. mark_at x.1 >>= (λ m. done {A = Member × Stream} (record { at = place t; target = x.0; mark = m.0 }, m.1))))
    (λ t e us. opens_placed IsTarget (Behind IsMember (t ∷ [])) end target_at (λ n a s. mark_at s >>= (λ m. done {A = Member × Stream} (record { at = n; target = a; mark = m.0 }, m.1))) nothing_target
    (λ n a front b d vs. opens_bind (IsOptional IsMark) (Behind (Behind IsMember (t ∷ [])) front) end mark_at (λ m s. done {A = Member × Stream} (record { at = n; target = a; mark = m }, s))
    (λ m other o. opens_pure (record { at = n; target = a; mark = m }) (Behind (Behind (Behind IsMember (t ∷ [])) front) other) end
    (λ ws. (front ++ (other ++ ws), other ++ ws, (e.0, e.1, refl), begins_more n front (other ++ ws) b, d (other ++ ws), o ws))) vs (mark-opens end vs)) us (target-opens end us)) xs

pub quoted-opens : (end : ℕ) → Opened quoted_at (IsOptional IsQuoted) end
unfolding quoted_at
quoted-opens end =
    choice (codes "(") (λ n s. text_at s >>= (λ x. literal_at (codes ")") x.1 >>= (λ u. Ok (Some x.0, u))))
    (λ t e. part_then _ (text-opens end) (λ x front d. word_then (λ u c. all_read (λ ws. (front ++ (u ∷ ws), u ∷ ws, (e.0, e.1, refl), d (u ∷ ws), (c.0, c.1, refl))))))
    (all_read (λ ws. refl))

pub enum_member-opens : (end : ℕ) → Opened enum_member_at IsEnumMember end
unfolding enum_member_at
enum_member-opens end =
    word_then (λ t e. part_then _ (name-opens end) (λ n front d. part_then _ (quoted-opens end) (λ q other o. all_read (λ ws. (front ++ (other ++ ws), other ++ ws, (e.0, e.1, refl), d (other ++ ws), o ws)))))
