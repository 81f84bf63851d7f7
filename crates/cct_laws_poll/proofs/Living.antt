-- A run of a host is steps of a live host.
use Rattle.std.proofs.Common.{◌≡◌, List, [], ◌∷◌, ◌++◌, reverse, sym, ap, subst, ◌∙◌, append_assoc}
use Rattle.std.proofs.lemmas.List.{append-nil, reverse-reverse}
use Rattle.cct_model.specs.lines.entry.Entry.{Entry}
use Rattle.cct_model.specs.lines.record.Record.{Record}
use Rattle.cct_model.specs.Setup.{IsSoundSetup}
use Rattle.cct_model.specs.Transcript.{onto}
use Rattle.cct_laws.proofs.steps.OneMore.{onto-append, onto_is}
use Rattle.cct_disk.specs.declared.disk.Disk.{Ghosts}
use Rattle.cct_journal.specs.declared.format.TheConstants.{MOST_RECORDS}
use Rattle.cct_host.specs.declared.host.Host.{Host}
use Rattle.cct_host.specs.Attempt.{news_of}
use Rattle.cct_host.specs.Host.{StandsFor, setup_of}
use Rattle.cct_laws_live.specs.LiveStep.{LiveStep}
use Rattle.cct_laws_live.specs.LiveStep as live
use Rattle.cct_laws_live.specs.Life.{IsLife}
use Rattle.cct_laws_live.proofs.Life.{life_command, life_next}
use Rattle.cct_live_service.proofs.Suiting.{life_suits}
use Rattle.cct_laws_poll.specs.Runs.{Deed, Does, LivesOn, Runs, advanced, commanded, made}

pub told_news : (past news : List Entry) → onto past (reverse news) ≡ news ++ past
told_news past news = onto_is past (reverse news) ∙ ap (λ l. l ++ past) (reverse-reverse news)

module _ {D : Type 0} {g : Ghosts D} (found : List Record) where
  pub one : (deed : Deed) (steps : List LiveStep) (past : List Entry) (before after : Host D g) (told : List Entry)
      → IsSoundSetup (setup_of before) → IsLife MOST_RECORDS (setup_of before) found steps past → StandsFor before past
      → Does deed before after told → LivesOn (setup_of before) found steps past after told
  one (commanded c) steps past before after told sound life stands does =
      let says = does.1 past stands in
      subst (λ t. LivesOn (setup_of before) found steps past after t) (sym says.told_is) (record {
        more = live.command c ∷ [];
        life = life_command MOST_RECORDS (setup_of before) found steps past c life does.0;
        stands = says.stands;
      })
  one (advanced addr piece heard) steps past before after told sound life stands does =
      let stepped = does.1 in
      let suits = life_suits MOST_RECORDS (setup_of before) found steps past addr sound life in
      let goes = stepped.goes past stands suits in
      let told_is = ap (onto past) stepped.told_is ∙ told_news past (news_of addr stepped.what) in
      record {
        more = live.next addr ∷ [];
        life =
            subst (λ e. IsLife MOST_RECORDS (setup_of before) found (steps ++ live.next addr ∷ []) e) (sym told_is)
            (life_next MOST_RECORDS (setup_of before) found steps past addr heard (news_of addr stepped.what) life does.0 goes.0);
        stands = subst (λ e. StandsFor after e) (sym told_is) goes.1;
      }
  one made steps past before after told sound life stands does =
      subst (λ t. LivesOn (setup_of before) found steps past after t) (sym does.0) (record {
        more = [];
        life = subst (λ l. IsLife MOST_RECORDS (setup_of before) found l past) (sym (append-nil steps)) life;
        stands = does.1 past stands;
      })

  pub lives_on : (deeds : List Deed) (steps : List LiveStep) (past : List Entry) (before after : Host D g)
      (told : List Entry) → IsSoundSetup (setup_of before) → IsLife MOST_RECORDS (setup_of before) found steps past
      → StandsFor before past → Runs deeds before after told → LivesOn (setup_of before) found steps past after told
  lives_on [] steps past before after told sound life stands runs =
      subst (λ t. LivesOn (setup_of before) found steps past after t) (sym runs.1) (record {
        more = [];
        life = subst (λ l. IsLife MOST_RECORDS (setup_of before) found l past) (sym (append-nil steps)) life;
        stands = subst (λ h. StandsFor h past) (sym runs.0) stands;
      })
  lives_on (deed ∷ deeds) steps past before after told sound life stands (between, first, rest, same, does, runs, told_is) =
      let here = one deed steps past before between first sound life stands does in
      let later = lives_on deeds (steps ++ here.more) (onto past first) between after rest
      (subst IsSoundSetup (sym same) sound)
      (subst (λ s. IsLife MOST_RECORDS s found (steps ++ here.more) (onto past first)) (sym same) here.life) here.stands runs in
      let all = ap (onto past) told_is ∙ onto-append past first rest in
      record {
        more = here.more ++ later.more;
        life =
            subst (λ e. IsLife MOST_RECORDS (setup_of before) found (steps ++ (here.more ++ later.more)) e) (sym all)
            (subst (λ l. IsLife MOST_RECORDS (setup_of before) found l (onto (onto past first) rest))
            (append_assoc steps here.more later.more)
            (subst (λ s. IsLife MOST_RECORDS s found ((steps ++ here.more) ++ later.more) (onto (onto past first) rest)) same
            later.life));
        stands = subst (λ e. StandsFor after e) (sym all) later.stands;
      }
