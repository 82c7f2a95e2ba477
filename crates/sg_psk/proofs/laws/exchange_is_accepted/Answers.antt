use Rattle.sg_psk.proofs.ExchangeLaws.{initial_read, initial_accepted, response_read, response_accepted}
use Rattle.sg_psk.proofs.SentLaws.{waiting_sent}
use Rattle.sg_psk.proofs.laws.exchange_is_accepted.Goals as goal

pub returns-clause-sent : goal.returns-clause-sent
returns-clause-sent c = waiting_sent

pub returns-clause-initial_read : goal.returns-clause-initial_read
returns-clause-initial_read c = initial_read c.message_law.ensures.again

pub returns-clause-initial : goal.returns-clause-initial
returns-clause-initial c = initial_accepted

pub returns-clause-response_read : goal.returns-clause-response_read
returns-clause-response_read c = response_read c.message_law.ensures.again

pub returns-clause-response : goal.returns-clause-response
returns-clause-response c = response_accepted
