-- A call is refused by its first check that fails: of plain receivers, of peers, of histories.
pub mod FirstLaws
pub mod PostChecked
pub mod PacketChecked
pub mod AnswersChecked
pub mod AcceptOrRefuse
pub mod HistoryChecked
