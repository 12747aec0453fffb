use Rattle.std.proofs.Common.{refl}
use Rattle.clap.proofs.OnLiterals.{clap_on_literals}
use Rattle.inet_tool.proofs.law.refused_words.Goals as goal

pub returns-clause-none : goal.returns-clause-none
unfolding clap_on_literals
returns-clause-none c = refl

pub returns-clause-unknown : goal.returns-clause-unknown
unfolding clap_on_literals
returns-clause-unknown c = refl

pub returns-clause-help : goal.returns-clause-help
unfolding clap_on_literals
returns-clause-help c = refl

pub returns-clause-long_help : goal.returns-clause-long_help
unfolding clap_on_literals
returns-clause-long_help c = refl

pub returns-clause-more : goal.returns-clause-more
unfolding clap_on_literals
returns-clause-more c = refl

pub returns-clause-audit : goal.returns-clause-audit
unfolding clap_on_literals
returns-clause-audit c = refl

pub returns-clause-one : goal.returns-clause-one
unfolding clap_on_literals
returns-clause-one c = refl

pub returns-clause-seed : goal.returns-clause-seed
unfolding clap_on_literals
returns-clause-seed c = refl

pub returns-clause-count : goal.returns-clause-count
unfolding clap_on_literals
returns-clause-count c = refl

pub returns-clause-race : goal.returns-clause-race
unfolding clap_on_literals
returns-clause-race c = refl

pub returns-clause-no_lookers : goal.returns-clause-no_lookers
unfolding clap_on_literals
returns-clause-no_lookers c = refl

pub returns-clause-lookers : goal.returns-clause-lookers
unfolding clap_on_literals
returns-clause-lookers c = refl

pub returns-clause-passes : goal.returns-clause-passes
unfolding clap_on_literals
returns-clause-passes c = refl
