-- One step of a peer: what a call may come to, what it keeps, and what each answer leaves.
pub mod StepCases
pub mod Verdicts
pub mod AnswerLaws
pub mod Kept
pub mod BitMoves
pub mod MovesHold
pub mod SlotsRound
pub mod EmptyStarts
