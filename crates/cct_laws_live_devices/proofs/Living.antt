-- The money is right over all lives of hosts over an honest line.
use Rattle.std.proofs.Common.{Bool, ◌≡◌, inl, inr, ℕ, ◌≤◌, List, [], ◌∷◌, ◌++◌, refl, sym, ap, ◌∙◌, subst, Option, Some, None, Result, All, append_assoc, arith, true≢false, false}
use Rattle.std.proofs.lemmas.List.Elements.{All-nil}
use Rattle.cct_edge.specs.declared.fault.Failed.{Failed}
use Rattle.cct_model.specs.terms.device.Setup.{Setup}
use Rattle.cct_model.specs.lines.command.CrashAt.{CrashAt}
use Rattle.cct_model.specs.lines.record.Record.{Record}
use Rattle.cct_model.specs.lines.entry.End.{End}
use Rattle.cct_model.specs.lines.entry.Entry.{Entry}
use Rattle.cct_model.specs.lines.entry.Entry.TheVariants as entry
use Rattle.cct_model.specs.Legal.{EntriesOfRestart, RestartEntries, due_at, with_end}
use Rattle.cct_model.specs.Records.{records}
use Rattle.cct_model.specs.Script.{IsCrash}
use Rattle.cct_model.specs.Setup.{IsSoundSetup}
use Rattle.cct_live_port.specs.declared.port.Port.{Port}
use Rattle.cct_live_port.specs.Port.{Gives, line_of, options_of, settled, silent_of}
use Rattle.cct_laws.proofs.money.Restarts.{entries_free}
use Rattle.cct_laws_live.specs.Life.{IsLife}
use Rattle.cct_laws_live.specs.Live.{IsTellable, LiveFrom, started}
use Rattle.cct_laws_live.specs.LiveStep.{LiveStep}
use Rattle.cct_laws_live.proofs.Alike.{Alike}
use Rattle.cct_laws_live.proofs.Joining.{alike_started}
use Rattle.cct_laws_live_devices.specs.Asked.{Moment, asks, entries}
use Rattle.cct_laws_live_devices.specs.Real.{accepted_at, fell_at}
use Rattle.cct_laws_live_devices.specs.Whole.{IsWhole}
use Rattle.cct_laws_live_devices.proofs.Questions.{same_all}
use Rattle.cct_laws_live_devices.proofs.Real.{life_whole, right_from}
use Rattle.cct_laws_live_devices.specs.Chain.{Chain}
use Rattle.cct_laws_live_devices.specs.Devices.{MayReach}
use Rattle.cct_laws_live_devices.specs.Explained.{IsExplained}
use Rattle.cct_laws_live_devices.specs.Lives.{HaveLived, IsHonestLine, IsPortOf, IsRightOver, asked_who, first_start, lived, meanwhile, was_asked, was_killed}
use Rattle.cct_laws_live_devices.proofs.Befallen.{accepted_all, fell_all, since_over}
use Rattle.cct_laws_live_devices.proofs.Explaining.{explained_befell, explained_besides, explained_question}
use Rattle.cct_laws_live_devices.proofs.Exchanging.{IsAskedAt, told_exchange}
use Rattle.cct_laws_live_devices.proofs.Giving.{may_happen}
use Rattle.cct_laws_live_devices.proofs.Going.{GoesOn, chain_explained}
use Rattle.cct_laws_live_devices.proofs.Sending.{AllAsked, IsAskedIn, asked_first, live_asked, started_asked}

-- a start
due_explained : (setup : Setup) (history : List Moment) (past news : List Entry) (calls : ℕ) (due : Option Record) →
    RestartEntries past calls due news → IsExplained setup history past → IsExplained setup history (news ++ past)
due_explained setup history past news calls None is x =
    subst (λ es. IsExplained setup history (es ++ past)) (sym is) (explained_besides setup history past _ refl x)
due_explained setup history past news calls (Some r) is x = elim is [
  | inl bare ↦
      subst (λ es. IsExplained setup history (es ++ past)) (sym bare.1) (explained_besides setup history past _ refl x)
  | inr keeping ↦
      subst (λ es. IsExplained setup history (es ++ past)) (sym keeping.1)
      (explained_besides setup history _ (entry.Kept r) refl (explained_besides setup history past _ refl x))
]

restart_explained : (setup : Setup) (history : List Moment) (past news : List Entry) (at : Option CrashAt) →
    EntriesOfRestart setup past at news → IsExplained setup history past → IsExplained setup history (news ++ past)
restart_explained setup history past news None is x =
    subst (λ es. IsExplained setup history (es ++ past)) (sym is) (explained_besides setup history past _ refl x)
restart_explained setup history past news (Some at) is x =
    due_explained setup history past news at.calls (due_at setup past at.addr) is x

-- an exchange in which a host was killed
cut_asked : (addr : ℕ) (e : Entry) (end : Option End) (told : List Entry) → AllAsked (with_end addr e end ++ told) →
    IsAskedIn e × AllAsked told
cut_asked addr e None told all = (all.0, all.1)
cut_asked addr e (Some end) told all = (all.1.0, all.1.1)

end_explained : (setup : Setup) (history : List Moment) (past : List Entry) (addr : ℕ) (e : Entry) (end : Option End) →
    IsExplained setup history (e ∷ past) → IsExplained setup history (with_end addr e end ++ past)
end_explained setup history past addr e None x = x
end_explained setup history past addr e (Some end) x = explained_besides setup history (e ∷ past) (entry.Ended addr end) refl x

killed_explained : (setup : Setup) (before after : List Moment) (past : List Entry) (addr : ℕ) (sent : List ℕ)
    (end : Option End) → IsSoundSetup setup → MayReach setup before sent after → IsAskedAt addr sent →
    IsExplained setup before past → IsExplained setup after (with_end addr (entry.Wire addr sent []) end ++ past)
killed_explained setup before after past addr sent end sound reach asked x =
    let one = may_happen setup before after sent reach in
    end_explained setup after past addr (entry.Wire addr sent []) end
    (explained_befell setup one.second after (entry.Wire addr sent [] ∷ past) one.later
    (told_exchange setup one.first past addr sent [] one.second sound (omega arith) asked one.happened
    (explained_befell setup before one.first past one.earlier x)))

-- a host has just started
record HasStarted (capacity : ℕ) (setup : Setup) (devices : List Moment) (found : List Record) (whole : List Entry) : Type 0 where
  steps : List LiveStep
  before : List Entry
  at : Option CrashAt
  news : List Entry
  in_range : All IsTellable steps
  crash : IsCrash at
  all_lived : LiveFrom capacity setup [] steps before
  restarted : EntriesOfRestart setup before at news
  left : records (news ++ before) ≡ found
  all : whole ≡ news ++ before
  explained : IsExplained setup devices whole

started_with : (capacity : ℕ) (setup : Setup) (before after : List Moment) (found : List Record) (whole : List Entry) →
    HasStarted capacity setup before found whole → IsExplained setup after whole → HasStarted capacity setup after found whole
started_with capacity setup before after found whole has x = record {
  steps = has.steps;
  before = has.before;
  at = has.at;
  news = has.news;
  in_range = has.in_range;
  crash = has.crash;
  all_lived = has.all_lived;
  restarted = has.restarted;
  left = has.left;
  all = has.all;
  explained = x;
}

module _ {L : Type 0} (reads : L → Option (List ℕ) → L → Type 0) (writes : L → List ℕ → Result (Unit {0}) Failed → L → Type 0)
    (echoes : Bool) (longest : ℕ) (coming : L → List ℕ) (silent : L → ℕ) (capacity : ℕ) (setup : Setup) (history : L → List Moment)
    (sound : IsSoundSetup setup) (line : IsHonestLine reads writes echoes longest coming silent setup history) where
  chain_goes : (first last : Port L) (whole told : List Entry) → IsPortOf reads writes echoes longest coming silent first →
      AllAsked told → Chain (Gives reads writes) first told last → IsExplained setup (history (line_of first)) whole →
      GoesOn reads writes setup echoes longest coming silent line.answer history line.prompt line.modelled sound first
      last (told ++ whole)
  chain_goes first last whole told port asked chain x =
      chain_explained reads writes setup echoes longest coming silent line.answer history line.prompt line.modelled sound first last
      whole told port.waits port.echo port.quiet asked chain x

  life_goes : (first last : Port L) (found : List Record) (steps : List LiveStep) (told whole : List Entry) →
      IsPortOf reads writes echoes longest coming silent first → IsLife capacity setup found steps (told ++ started found) →
      Chain (Gives reads writes) first told last → IsExplained setup (history (line_of first)) whole →
      GoesOn reads writes setup echoes longest coming silent line.answer history line.prompt line.modelled sound first
      last (told ++ whole)
  life_goes first last found steps told whole port life chain x =
      chain_goes first last whole told port
      (asked_first told (started found)
      (live_asked capacity setup steps (started found) (told ++ started found) sound (started_asked found) life.live))
      chain x

  whole_of : (devices : List Moment) (found : List Record) (steps : List LiveStep) (told whole : List Entry) →
      HasStarted capacity setup devices found whole → IsWhole capacity setup found (told ++ started found) (told ++ whole)
  whole_of devices found steps told whole has = record {
    steps = has.steps;
    before = has.before;
    at = has.at;
    news = has.news;
    told = told;
    in_range = has.in_range;
    crash = has.crash;
    lived = has.all_lived;
    restarted = has.restarted;
    left = has.left;
    ends = refl;
    all = ap (λ es. told ++ es) has.all;
  }

  has_started : (devices : List Moment) (found : List Record) (whole : List Entry) →
      HaveLived reads writes echoes longest coming silent capacity setup history devices found whole →
      HasStarted capacity setup devices found whole
  has_started _ _ _ first_start = record {
    steps = [];
    before = [];
    at = None;
    news = entry.Crash 0 ∷ [];
    in_range = All-nil IsTellable;
    crash = tt;
    all_lived = refl;
    restarted = refl;
    left = refl;
    all = refl;
    explained = record {
      world = entry.Crash 0 ∷ [];
      since = [];
      over = record { answered = (tt, tt); honest = (tt, tt); tells = refl };
      newest = refl;
      befell = tt;
      clear = refl;
      same = λ d. same_all [];
      all = refl;
    };
  }
  has_started _ _ _ (meanwhile before after found whole lives befell) =
      let has = has_started before found whole lives in
      started_with capacity setup before after found whole has (explained_befell setup before after whole befell has.explained)
  has_started _ _ _ (asked_who first last found whole lives port chain) =
      let has = has_started (history (line_of first)) found whole lives in
      let goes = chain_goes first last whole [] port tt chain has.explained in
      started_with capacity setup (history (line_of first)) (history (line_of last)) found whole has goes.explained
  has_started _ _ _ (was_asked before piece found whole lives question) =
      let has = has_started before found whole lives in
      started_with capacity setup before (asks piece ∷ before) found whole has
      (explained_question setup before whole piece question has.explained)
  has_started _ _ _ (lived first last found left steps told news whole at lives port life chain crash restarted is) =
      let has = has_started (history (line_of first)) found whole lives in
      let all =
      life_whole capacity setup found steps (told ++ started found) (told ++ whole) life
      (whole_of (history (line_of first)) found steps told whole has) in
      record {
        steps = all.0;
        before = told ++ whole;
        at = at;
        news = news;
        in_range = all.1;
        crash = crash;
        all_lived = all.2;
        restarted = restarted;
        left = is;
        all = refl;
        explained =
            restart_explained setup (history (line_of last)) (told ++ whole) news at restarted
            (life_goes first last found steps told whole port life chain has.explained).explained;
      }
  has_started _ _ _ (was_killed first last found left steps told all news whole at addr sent end after lives port is life
      chain reach crash restarted left_is) =
      let has = has_started (history (line_of first)) found whole lives in
      let lived_all =
      life_whole capacity setup found steps (all ++ started found) (all ++ whole) life
      (whole_of (history (line_of first)) found steps all whole has) in
      let asked =
      subst AllAsked is
      (asked_first all (started found)
      (live_asked capacity setup steps (started found) (all ++ started found) sound (started_asked found) life.live)) in
      record {
        steps = lived_all.0;
        before = all ++ whole;
        at = at;
        news = news;
        in_range = lived_all.1;
        crash = crash;
        all_lived = lived_all.2;
        restarted = restarted;
        left = left_is;
        all = refl;
        explained =
            restart_explained setup after (all ++ whole) news at restarted
            (subst (IsExplained setup after)
            (sym (ap (λ es. es ++ whole) is ∙ append_assoc (with_end addr (entry.Wire addr sent []) end) told whole))
            (killed_explained setup (history (line_of last)) after (told ++ whole) addr sent end sound reach
            (cut_asked addr (entry.Wire addr sent []) end told asked).0
            (chain_goes first last whole told port (cut_asked addr (entry.Wire addr sent []) end told asked).1 chain
            has.explained).explained));
      }

  -- over the records that it found, as after all that was reported
  pub lives_alike : (devices : List Moment) (found : List Record) (whole : List Entry) →
      HaveLived reads writes echoes longest coming silent capacity setup history devices found whole →
      Alike (started found) whole
  lives_alike devices found whole lives =
      let has = has_started devices found whole lives in
      subst (Alike (started found)) (sym has.all)
      (subst (λ rs. Alike (started rs) (has.news ++ has.before)) has.left
      (alike_started (has.news ++ has.before) (entries_free setup has.before has.at has.news has.restarted)))

  -- and it lives
  right_over : (steps : List LiveStep) (devices : List Moment) (past : List Entry) → All IsTellable steps →
      LiveFrom capacity setup [] steps past → IsExplained setup devices past → IsRightOver setup (entries devices) past
  right_over steps devices past range live x =
      let over = since_over setup x.world past x.since x.befell x.over in
      record {
        world = x.since ++ x.world;
        befell = x.all;
        over = over;
        right = right_from capacity setup steps (x.since ++ x.world) past sound range live over;
        accepted = λ addr. accepted_all addr (x.since ++ x.world) ∙ ap (accepted_at addr) x.all;
        fell = λ addr. fell_all addr (x.since ++ x.world) ∙ ap (fell_at addr) x.all;
      }

  pub life_right_over : (first last : Port L) (found : List Record) (steps : List LiveStep) (told whole : List Entry) →
      HaveLived reads writes echoes longest coming silent capacity setup history (history (line_of first)) found whole →
      IsPortOf reads writes echoes longest coming silent first → IsLife capacity setup found steps (told ++ started found) →
      Chain (Gives reads writes) first told last →
      IsRightOver setup (entries (history (line_of last))) (told ++ whole) × IsPortOf reads writes echoes longest coming silent last
  life_right_over first last found steps told whole lives port life chain =
      let has = has_started (history (line_of first)) found whole lives in
      let all =
      life_whole capacity setup found steps (told ++ started found) (told ++ whole) life
      (whole_of (history (line_of first)) found steps told whole has) in
      let goes = life_goes first last found steps told whole port life chain has.explained in (
        right_over all.0 (history (line_of last)) (told ++ whole) all.1 all.2 goes.explained,
        record {
          echo = ap (λ o. o.echoes) goes.options ∙ port.echo;
          waits = subst (λ o. longest ≤ o.longest) (sym goes.options) port.waits;
          quiet = goes.quiet;
        },
      )

-- a port that was just made
module _ {L : Type 0} (reads : L → Option (List ℕ) → L → Type 0) (writes : L → List ℕ → Result (Unit {0}) Failed → L → Type 0) where
  pub new_port : (longest : ℕ) (coming : L → List ℕ) (silent : L → ℕ) (port : Port L) → settled port ≡ false →
      silent_of port ≡ 0 → longest ≤ (options_of port).longest →
      IsPortOf reads writes (options_of port).echoes longest coming silent port
  new_port longest coming silent port unsettled none long = record {
    echo = refl;
    waits = long;
    quiet = record {
      nothing = λ is. absurd (true≢false (sym is ∙ unsettled));
      counted = subst (λ n. n ≤ silent (line_of port)) (sym none) (omega arith);
    };
  }
