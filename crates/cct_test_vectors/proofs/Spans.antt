-- What a monitor says of taps under the simple check, one after the other, and at their end.
use Rattle.std.proofs.Common.{◌≡◌, ℕ, List, [], ◌∷◌, ◌++◌, true, false, refl}
use Prim.Native.String.{String}
use Rattle.std.specs.Prelude.{codes}
use Rattle.cct_model.specs.terms.wire.CheckKind.TheVariants.{Simple}
use Rattle.cct_audit_taps.specs.declared.said.Said.{Said}
use Rattle.cct_audit_taps.specs.declared.said.Said.TheVariants.{Sure, Doubt, Fell}
use Rattle.cct_model.specs.Message.{message}
use Rattle.cct_model.specs.Request.{request_of, requests_with}
use Rattle.cct_model.specs.Reply.{reply_in}
use Rattle.cct_model.specs.Exchange.{after_echo, got}
use Rattle.cct_model.specs.Reading.{distance}
use Rattle.cct_model.specs.Order.{life_between}
use Rattle.cct_audit_taps.specs.Taps.{Tap, tap_of}
use Rattle.cct_monitor.specs.declared.watched.Family.TheVariants as watched_as
use Rattle.cct_monitor.specs.Watches.{Came, finally_of_all, made_tap, made_watch, said_of_all}
use Rattle.cct_test_vectors.proofs.Played.{bytes_of}

-- a tap of a message and of its reply, which comes after the echo
abbrev tap : String → String → Tap
tap sent reply = let asked = bytes_of (codes sent) in tap_of asked (asked ++ bytes_of (codes reply))

-- an acceptor is to be watched, and a hopper
abbrev acceptor : ℕ → Came
acceptor addr = made_watch (record { addr = addr; kind = Simple; family = watched_as.Acceptor })

abbrev hopper : ℕ → Came
hopper addr = made_watch (record { addr = addr; kind = Simple; family = watched_as.Hopper })

-- what is said at each of these taps, after all that came before, newest first
abbrev says : List Came → List Tap → List (List Said)
says past [] = []
says past (t ∷ taps) = said_of_all t past ∷ says (made_tap t ∷ past) taps

-- and what is said at their end
abbrev ends : List Came → List Tap → List Said
ends past [] = finally_of_all past
ends past (t ∷ taps) = ends (made_tap t ∷ past) taps

-- a reading of acceptor 2 before any event, and after a coin of place 5 fell by path 1; and one of its inhibit mask: all
-- places are accepted
abbrev no_event : Tap
no_event = tap "020001e518" "010b02000000000000000000000000f2"

abbrev one_coin : Tap
one_coin = tap "020001e518" "010b02000105010000000000000000eb"

abbrev all_places : Tap
all_places = tap "020001e617" "01020200fffffd"

-- a span is sure once a mask is read, and else in doubt
abbrev one_acceptor : List Tap
one_acceptor = no_event ∷ all_places ∷ one_coin ∷ all_places ∷ one_coin ∷ []

sure_once_masked : says (acceptor 2 ∷ []) one_acceptor
    ≡ [] ∷ [] ∷ [] ∷ (Sure 2 1 3 (record { place = 5; path = 1 } ∷ []) ∷ []) ∷ [] ∷ []
unfolding message request_of requests_with reply_in after_echo got distance
sure_once_masked = refl

in_doubt_at_the_end : ends (acceptor 2 ∷ []) one_acceptor ≡ Doubt 2 3 5 ∷ []
unfolding message request_of requests_with reply_in after_echo got distance
in_doubt_at_the_end = refl

-- the end is said in rising order of address
abbrev nine_no_event : Tap
nine_no_event = tap "090001e511" "010b09000000000000000000000000eb"

abbrev two_acceptors : List Tap
two_acceptors = nine_no_event ∷ no_event ∷ nine_no_event ∷ no_event ∷ []

nothing_is_said_yet : says (acceptor 2 ∷ acceptor 9 ∷ []) two_acceptors ≡ [] ∷ [] ∷ [] ∷ [] ∷ []
unfolding message request_of requests_with reply_in after_echo got distance
nothing_is_said_yet = refl

in_rising_order : ends (acceptor 2 ∷ acceptor 9 ∷ []) two_acceptors ≡ Doubt 2 2 4 ∷ Doubt 9 1 3 ∷ []
unfolding message request_of requests_with reply_in after_echo got distance
in_rising_order = refl

-- the life count of hopper 3: 16,777,214, and 2 after four coins more
past_the_last_count : says (hopper 3 ∷ []) (tap "030001a854" "01030300fefffffd" ∷ tap "030001a854" "01030300020000f7" ∷ [])
    ≡ [] ∷ (Fell 3 1 2 4 ∷ []) ∷ []
unfolding message request_of requests_with reply_in after_echo got life_between
past_the_last_count = refl
