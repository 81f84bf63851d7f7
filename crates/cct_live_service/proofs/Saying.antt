-- What an input says, read line by line.
use Rattle.std.proofs.Common.{◌≡◌, ◌≤◌, ◌<◌, ◌+◌, ◌∙◌, ℕ, suc, List, [], ◌∷◌, ◌++◌, length, Option, Some, None, Ok, Err, IfErr, IfOk, refl, sym, ap, subst, inl, inr, append_assoc, arith}
use Rattle.std.specs.Io.KnownBytes.{IsAtEnd}
use Rattle.std.proofs.lemmas.List.{append-nil}
use Rattle.cct_model.specs.lines.entry.LineKind.TheVariants as kind
use Rattle.cct_model.specs.Script.{most_bytes}
use Rattle.cct_script.specs.declared.endless.TheConstants.{MOST_PASSED}
use Rattle.cct_script.specs.declared.lines.LinesNo.{LinesNo}
use Rattle.cct_script.specs.declared.lines.LinesNo.TheVariants as no
use Rattle.cct_script.specs.declared.live.LiveLine.TheVariants as says
use Rattle.cct_script.specs.Endless.{GivesNext, IsOneLine, cut, ended, long, text}
use Rattle.cct_live_service.specs.Input.{IsToldInput, input_line}
use Rattle.cct_live_service.specs.declared.input.InputLine.TheVariants as input
use Rattle.cct_live_service.specs.Causes.{EndsBy, IsUnread}
use Rattle.cct_script.specs.Window.{Fills}
use Rattle.cct_live_service.specs.declared.served.Served.{Served}
use Rattle.cct_live_service.specs.declared.served.Served.TheVariants as served
use Rattle.cct_live_service.specs.Said.{ComesNext, EndsInput, HasSaid, IsNumbered, IsOfInput, IsSayable, IsTooLong, Said, Says, stopped_by, unless_end}

none_told : (bytes : List ℕ) → None ≡ Some bytes → ⊥
none_told bytes e = cc e

same_told : (a b : List ℕ) → Some a ≡ Some b → b ≡ a
same_told a b e = cc e

-- bytes that came after those held, of an input that shows them
consumed : (held new : List ℕ) (left now : Option (List ℕ)) → Fills held new left now → (bytes : List ℕ) →
    left ≡ Some bytes → (rest : List ℕ) × (now ≡ Some rest) × (held ++ bytes ≡ new ++ rest)
consumed held new None now fills bytes is = absurd (none_told bytes is)
consumed held new (Some left) None fills bytes is = absurd fills.2
consumed held new (Some left) (Some rest) fills bytes is = (
  rest,
  refl,
  ap (λ more. held ++ more) (same_told left bytes is)
      ∙ (ap (λ more. held ++ more) fills.2
      ∙ (sym (append_assoc held fills.0 rest) ∙ ap (λ all. all ++ rest) (sym fills.1))),
)

module _ (number : ℕ) (held kept : List ℕ) (left now : Option (List ℕ)) where
  -- a line that isn't too long
  pub comes_text : (line : List ℕ) (said : Said) → said ≡ input_line line → GivesNext held kept left now (Ok (text line)) →
      ComesNext number (Ok said) held left kept now
  comes_text line said is gives bytes told =
      let all = consumed held (line ++ 10 ∷ kept) left now gives.2 bytes told in (
        all.0,
        all.1,
        inl (line, gives.1, all.2 ∙ append_assoc line (10 ∷ kept) all.0, inl (gives.0, is)),
      )

  -- one that is
  pub comes_long : GivesNext held kept left now (Ok long) → ComesNext number (Ok (Err kind.Long)) held left kept now
  comes_long gives bytes told =
      let line = gives.0 in
      let all = consumed held (line ++ 10 ∷ kept) left now gives.3 bytes told in (
        all.0,
        all.1,
        inl (line, gives.2, all.2 ∙ append_assoc line (10 ∷ kept) all.0, inr (gives.1, refl)),
      )

  at_end : (rest : List ℕ) → now ≡ Some rest → IsAtEnd now → rest ≡ []
  at_end rest is over = subst IsAtEnd is over

  -- the end within a line
  pub comes_cut : GivesNext held kept left now (Ok cut) → ComesNext number (Ok (Err kind.Cut)) held left kept now
  comes_cut gives bytes told =
      let line = gives.0 in
      let all = consumed held line left now gives.3 bytes told in
      let none = at_end all.0 all.1 gives.5 in
      let same : held ++ bytes ≡ line = all.2 ∙ (ap (λ rest. line ++ rest) none ∙ append-nil line) in (
        all.0,
        all.1,
        inr (
          subst IsOneLine (sym same) gives.2,
          subst (λ bs. 1 ≤ length bs) (sym same) gives.1,
          refl,
          ap (λ k. k ++ all.0) gives.4 ∙ none,
        ),
      )

  -- a line that ends the service
  pub comes_end : (line : List ℕ) → input_line line ≡ Ok (input.Host says.End) → GivesNext held kept left now (Ok (text line)) →
      ComesNext number (Err served.Done) held left kept now
  comes_end line is gives many count = (
    tt,
    λ bytes told.
        let next = comes_text line (Ok (input.Host says.End)) (sym is) gives bytes told in
        inr (kept ++ next.0, next.2),
  )

  -- the end of the input
  pub comes_ended : GivesNext held kept left now (Ok ended) → ComesNext number (Err served.Done) held left kept now
  comes_ended gives many count = (
    tt,
    λ bytes told.
        let all = consumed held [] left now gives.0 bytes told in
        inl (all.2 ∙ at_end all.0 all.1 gives.2),
  )

  too_long : (line : List ℕ) → most_bytes + MOST_PASSED < length line → IsOneLine line → Fills held line left now →
      (bytes : List ℕ) → left ≡ Some bytes → IsTooLong (held ++ bytes)
  too_long line many one fills bytes told =
      let all = consumed held line left now fills bytes told in (line, all.0, all.2, one, many)

  -- a line, whatever it says
  pub comes_said : (line : List ℕ) (said : Said) → said ≡ input_line line → GivesNext held kept left now (Ok (text line)) →
      ComesNext number (unless_end said) held left kept now
  comes_said line (Ok (input.Host says.End)) is gives = comes_end line (sym is) gives
  comes_said line (Ok (input.Host (says.Command c))) is gives = comes_text line (Ok (input.Host (says.Command c))) is gives
  comes_said line (Ok (input.Host (says.Next addr))) is gives = comes_text line (Ok (input.Host (says.Next addr))) is gives
  comes_said line (Ok (input.Host (says.Do addr))) is gives = comes_text line (Ok (input.Host (says.Do addr))) is gives
  comes_said line (Ok (input.Host says.Poll)) is gives = comes_text line (Ok (input.Host says.Poll)) is gives
  comes_said line (Ok (input.Host says.Balance)) is gives = comes_text line (Ok (input.Host says.Balance)) is gives
  comes_said line (Ok (input.Host says.Status)) is gives = comes_text line (Ok (input.Host says.Status)) is gives
  comes_said line (Ok (input.Host (says.Order id))) is gives = comes_text line (Ok (input.Host (says.Order id))) is gives
  comes_said line (Ok (input.Host (says.Stock addr count))) is gives = comes_text line (Ok (input.Host (says.Stock addr count))) is gives
  comes_said line (Ok (input.Host (says.Change first amount))) is gives = comes_text line (Ok (input.Host (says.Change first amount))) is gives
  comes_said line (Ok (input.Host says.Serve)) is gives = comes_text line (Ok (input.Host says.Serve)) is gives
  comes_said line (Ok input.State) is gives = comes_text line (Ok input.State) is gives
  comes_said line (Err why) is gives = comes_text line (Err why) is gives

  -- no line any more
  pub comes_stopped : (why : LinesNo) → GivesNext held kept left now (Err why) →
      ComesNext number (Err (stopped_by number why)) held left kept now
  comes_stopped no.Read gives many count = (tt, λ bytes told. tt)
  comes_stopped no.Long gives many count =
      (sym count, λ bytes told. inl (refl, too_long gives.0 gives.1 gives.2 gives.3 bytes told))
  comes_stopped no.Cut gives many count =
      (sym count, λ bytes told. inl (refl, too_long gives.0 gives.1 gives.2 gives.3 bytes told))
  comes_stopped no.TooMany gives many count =
      (sym count, λ bytes told. inl (refl, too_long gives.0 gives.1 gives.2 gives.3 bytes told))

-- what is known of the next line beside what it says
pub said_sayable : (said : Said) → IfOk said IsToldInput → IfOk (unless_end said) IsSayable
said_sayable (Ok (input.Host says.End)) is = tt
said_sayable (Ok (input.Host (says.Command c))) is = is
said_sayable (Ok (input.Host (says.Next addr))) is = tt
said_sayable (Ok (input.Host (says.Do addr))) is = tt
said_sayable (Ok (input.Host says.Poll)) is = tt
said_sayable (Ok (input.Host says.Balance)) is = tt
said_sayable (Ok (input.Host says.Status)) is = tt
said_sayable (Ok (input.Host (says.Order id))) is = tt
said_sayable (Ok (input.Host (says.Stock addr count))) is = tt
said_sayable (Ok (input.Host (says.Change first amount))) is = is
said_sayable (Ok (input.Host says.Serve)) is = tt
said_sayable (Ok input.State) is = tt
said_sayable (Err why) is = tt

pub said_ends : (said : Said) → IfErr (unless_end said) IsOfInput
said_ends (Ok (input.Host says.End)) = tt
said_ends (Ok (input.Host (says.Command c))) = tt
said_ends (Ok (input.Host (says.Next addr))) = tt
said_ends (Ok (input.Host (says.Do addr))) = tt
said_ends (Ok (input.Host says.Poll)) = tt
said_ends (Ok (input.Host says.Balance)) = tt
said_ends (Ok (input.Host says.Status)) = tt
said_ends (Ok (input.Host (says.Order id))) = tt
said_ends (Ok (input.Host (says.Stock addr count))) = tt
said_ends (Ok (input.Host (says.Change first amount))) = tt
said_ends (Ok (input.Host says.Serve)) = tt
said_ends (Ok input.State) = tt
said_ends (Err why) = tt

pub said_not_unread : (said : Said) → EndsBy IsUnread (unless_end said) → ⊥
said_not_unread (Ok (input.Host says.End)) is = is
said_not_unread (Ok (input.Host (says.Command c))) is = is
said_not_unread (Ok (input.Host (says.Next addr))) is = is
said_not_unread (Ok (input.Host (says.Do addr))) is = is
said_not_unread (Ok (input.Host says.Poll)) is = is
said_not_unread (Ok (input.Host says.Balance)) is = is
said_not_unread (Ok (input.Host says.Status)) is = is
said_not_unread (Ok (input.Host (says.Order id))) is = is
said_not_unread (Ok (input.Host (says.Stock addr count))) is = is
said_not_unread (Ok (input.Host (says.Change first amount))) is = is
said_not_unread (Ok (input.Host says.Serve)) is = is
said_not_unread (Ok input.State) is = is
said_not_unread (Err why) is = is

pub stopped_ends : (number : ℕ) (why : LinesNo) → IsOfInput (stopped_by number why)
stopped_ends number no.Read = tt
stopped_ends number no.Long = tt
stopped_ends number no.Cut = tt
stopped_ends number no.TooMany = tt

pub stopped_unread : (number : ℕ) (why : LinesNo) → IsUnread (stopped_by number why) → why ≡ no.Read
stopped_unread number no.Read is = refl
stopped_unread number no.Long is = absurd is
stopped_unread number no.Cut is = absurd is
stopped_unread number no.TooMany is = absurd is

-- no line was said
pub said_none : (left : Option (List ℕ)) → HasSaid left [] [] left
said_none left bytes told = (bytes, told, refl)

-- one line more was said
pub said_more : (number : ℕ) (first left now : Option (List ℕ)) (held kept : List ℕ) (lines : List Said) (said : Said) →
    HasSaid first lines held left → ComesNext number (Ok said) held left kept now →
    HasSaid first (said ∷ lines) kept now
said_more number first left now held kept lines said has comes bytes told =
    let before = has bytes told in
    let next = comes before.0 before.1 in
    (next.0, next.1, (held ++ before.0, before.2, next.2))

-- and then the input ends
pub said_all : (number : ℕ) (how : Served) (first left now : Option (List ℕ)) (held kept : List ℕ) (lines : List Said) →
    suc (length lines) ≡ number → HasSaid first lines held left → ComesNext number (Err how) held left kept now →
    Says first lines how
said_all number how first left now held kept lines count has comes =
    let ends = comes (length lines) count in
    record {
      numbered = ends.0;
      all = λ bytes told.
          let before = has bytes told in
          (held ++ before.0, before.2, ends.1 before.0 before.1);
    }

-- what else ends a service isn't what the input says
breaks_numbered : (how : Served) (many : ℕ) → (IsOfInput how → ⊥) → IsNumbered how many
breaks_numbered served.Done many other = tt
breaks_numbered (served.Refused number why) many other = absurd (other tt)
breaks_numbered served.Unread many other = tt
breaks_numbered served.Unwritten many other = tt
breaks_numbered served.Disk many other = tt
breaks_numbered (served.OtherSize len) many other = tt
breaks_numbered served.Alien many other = tt
breaks_numbered (served.BadRecord index) many other = tt

breaks_ends : (how : Served) (many : ℕ) (bytes : List ℕ) → (IsOfInput how → ⊥) → EndsInput how many bytes
breaks_ends served.Done many bytes other = absurd (other tt)
breaks_ends (served.Refused number why) many bytes other = absurd (other tt)
breaks_ends served.Unread many bytes other = tt
breaks_ends served.Unwritten many bytes other = tt
breaks_ends served.Disk many bytes other = tt
breaks_ends (served.OtherSize len) many bytes other = tt
breaks_ends served.Alien many bytes other = tt
breaks_ends (served.BadRecord index) many bytes other = tt

pub said_broken : (how : Served) (first now : Option (List ℕ)) (held : List ℕ) (lines : List Said) → (IsOfInput how → ⊥) →
    HasSaid first lines held now → Says first lines how
said_broken how first now held lines other has = record {
  numbered = breaks_numbered how (length lines) other;
  all = λ bytes told.
      let before = has bytes told in
      (held ++ before.0, before.2, breaks_ends how (length lines) (held ++ before.0) other);
}

-- what was said up to the end is said still where something else ends the service then
pub said_ended : (how : Served) (first : Option (List ℕ)) (lines : List Said) → (IsOfInput how → ⊥) →
    Says first lines served.Done → Says first lines how
said_ended how first lines other says = record {
  numbered = breaks_numbered how (length lines) other;
  all = λ bytes told.
      let before = says.all bytes told in
      (before.0, before.1, breaks_ends how (length lines) before.0 other);
}

-- so many lines were said that no number is left
pub said_many : (first now : Option (List ℕ)) (held : List ℕ) (lines : List Said) → suc (length lines) ≡ 4294967295 →
    HasSaid first lines held now → Says first lines (served.Refused 4294967295 kind.Lines)
said_many first now held lines count has = record {
  numbered = sym count;
  all = λ bytes told.
      let before = has bytes told in
      (held ++ before.0, before.2, inr (refl, less (length lines) count));
}
  where
    less : (n : ℕ) → suc n ≡ 4294967295 → n ≡ 4294967294
    less n e = omega (arith, e)
