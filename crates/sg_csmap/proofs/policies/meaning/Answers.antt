use Rattle.sg_csmap.specs.Policies.{meaning}
use Rattle.sg_csmap.proofs.policies.meaning.Goals as goal

pub returns-in-0 : goal.returns-in-0
unfolding meaning
returns-in-0 c = rw c.in-0.is (c.value_in.ensures 0)

pub returns-in-1 : goal.returns-in-1
unfolding meaning
returns-in-1 c = rw c.in-1.is (c.value_in-in-1.ensures 1)

pub returns-in-2 : goal.returns-in-2
unfolding meaning
returns-in-2 c = rw c.in-2.is (c.value_in-in-2.ensures 2)

pub returns-in-3 : goal.returns-in-3
unfolding meaning
returns-in-3 c = rw c.in-3.is (c.value_in-in-3.ensures 3)

pub returns-in-4 : goal.returns-in-4
unfolding meaning
returns-in-4 c = rw c.in-4.is (c.value_in-in-4.ensures 4)

pub returns-in-5 : goal.returns-in-5
unfolding meaning
returns-in-5 c = rw c.in-5.is (c.value_in-in-5.ensures 5)

pub returns-in-6 : goal.returns-in-6
unfolding meaning
returns-in-6 c = rw c.in-6.is (c.value_in-in-6.ensures 6)

pub returns-in-7 : goal.returns-in-7
unfolding meaning
returns-in-7 c = rw c.in-7.is (c.value_in-in-7.ensures 7)

pub returns-in-8 : goal.returns-in-8
unfolding meaning
returns-in-8 c = rw c.in-8.is (c.value_in-in-8.ensures 8)

pub returns-in-9 : goal.returns-in-9
unfolding meaning
returns-in-9 c = rw c.in-9.is (c.value_in-in-9.ensures 9)

pub returns-in-10 : goal.returns-in-10
unfolding meaning
returns-in-10 c = rw c.in-10.is (c.value_in-in-10.ensures 10)

pub returns-in-11 : goal.returns-in-11
unfolding meaning
returns-in-11 c = rw c.in-11.is (c.value_in-in-11.ensures 11)

pub returns-in-12 : goal.returns-in-12
unfolding meaning
returns-in-12 c = rw c.in-12.is (c.value_in-in-12.ensures 12)
