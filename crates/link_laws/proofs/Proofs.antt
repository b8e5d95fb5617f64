-- The laws, from their parts.
use Rattle.link_laws.specs.Laws.{MatchesOrFails, LowestStrayIsFirst, LinkedGivesFacts, MatchesGiveFacts, LabelsStand, BranchesLeadThere}
use Rattle.link_laws.specs.Operands.{WantedWordsAreWords}
use Rattle.link_laws.specs.Spans.{SpansCoverWhatIsLoaded}
use Rattle.link_laws.proofs.Runs.{spans_cover}
use Rattle.link_laws.proofs.Fitting.{wanted_words}
use Rattle.link_laws.proofs.Strays.{no_strays, strays_pass, lowest_stray}
use Rattle.link_laws.proofs.First.{places_decide}
use Rattle.link_laws.proofs.Linked.{has_names}
use Rattle.link_laws.proofs.Entry.{entry_is}
use Rattle.link_laws.proofs.Keys.{shape_of_key}
use Rattle.link_laws.proofs.Whole as whole
use Rattle.link_laws.proofs.Targets.{has_labels, branches_lead}

pub matches_or_fails : MatchesOrFails
matches_or_fails g loadable = places_decide g loadable

pub lowest_stray_is_first : LowestStrayIsFirst
lowest_stray_is_first v l cs k =
    record { none = (no_strays v l cs k, strays_pass v l cs); lowest = λ a byte s. lowest_stray v l cs a byte k s }

pub linked_gives_facts : LinkedGivesFacts
linked_gives_facts p k = record { entry = entry_is p k; names = has_names p k; shapes = shape_of_key p.units k.fit }

pub matches_give_facts : MatchesGiveFacts
matches_give_facts g bs layout linked p = whole.matches_give_facts g bs layout linked p

pub labels_stand : LabelsStand
labels_stand v base code shape = has_labels v base code shape

pub branches_lead_there : BranchesLeadThere
branches_lead_there l at t made w lt = branches_lead l at t made w lt

pub wanted_words_are_words : WantedWordsAreWords
wanted_words_are_words t w x typed range = wanted_words t w x typed range

pub spans_cover_what_is_loaded : SpansCoverWhatIsLoaded
spans_cover_what_is_loaded v l cs externals n = spans_cover v l cs externals n
